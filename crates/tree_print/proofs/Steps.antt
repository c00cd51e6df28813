-- A step of the walk, from what its calls promise.
use Rattle.std.proofs.Common.{◌≡◌, ◌<◌, ◌+◌, ℕ, Bool, true, Option, Some, List, [], ◌∷◌, ◌++◌, cond, length, map, reverse, get_or, set, refl, sym, ◌∙◌, ap, subst, arith}
use Rattle.std.specs.Prelude.{slice_get}
use Rattle.std.proofs.lemmas.Option.{slice_get_read}
use Rattle.node_edges.specs.Edges.{edges_of}
use Rattle.node_edges.specs.Table.{ArePlaces}
use Rattle.resolution.specs.Settlements.{IsSettlement}
use Rattle.resolution.specs.declared.settled.Edge.{Edge}
use Rattle.resolution.specs.declared.settled.Settled.{Settled}
use Rattle.tree_print.specs.Lines.{Branch, branch_at, children, is_among, line_at, line_of}
use Rattle.tree_print.specs.Stacks.{IsState, IsStep, pending_at}
use Rattle.tree_print.specs.Texts.{line_text}
use Rattle.tree_print.specs.declared.pending.Pending.{Pending}
use Rattle.tree_print.proofs.States.{next_state, same_branch, same_mark}

-- an edge leads to a node
pub target_within : (settled : Settled) (at : ℕ) (e : Edge) → IsSettlement settled → at < length settled.edges → e ≡ get_or settled.edges at e → e.target < length settled.nodes
target_within settled at e so within is = subst (λ (x : Edge). x.target < length settled.nodes) (sym is) (so.edges at e within).0

module _ (settled : Settled) (marks marks' : List Bool) (stack stack' : List Pending) (text text' : List ℕ) (top : Pending) (e : Edge) (was : Bool) (places : List ℕ) where
  pub step_made : top.at < length settled.edges → e ≡ get_or settled.edges top.at e → e.target < length marks → slice_get marks e.target ≡ Some was → ArePlaces settled.edges places (edges_of settled.edges e.target)
      → text' ≡ text ++ line_text settled.nodes (line_at top.depth e was) → marks' ≡ set marks e.target true → stack' ≡ stack ++ cond was [] (map (pending_at (top.depth + 1)) (reverse places))
      → IsStep settled marks (stack ++ top ∷ []) text marks' stack' text'
  step_made within is target mark are line marked pushed =
      let here : slice_get settled.edges top.at ≡ Some e = slice_get_read settled.edges (length settled.edges) top.at e refl within is in
      record {
        line = λ above branch branches state.
            line
            ∙ ap (λ (w : Bool). text ++ line_text settled.nodes (line_at top.depth e w)) (same_mark settled.edges marks stack top above branch branches state e here was target mark)
            ∙ ap (λ (b : Branch). text ++ line_text settled.nodes (line_of above b)) (sym (same_branch settled.edges marks stack top above branch branches state e here));
        rest = λ above branch branches state.
            subst (λ (m : List Bool). IsState settled.edges m stack' (branch.edge.target ∷ above) (children settled.edges (is_among above branch.edge.target) branch ++ branches)) (sym marked) (next_state settled.edges marks stack top above branch branches state e here was target mark places stack' are pushed);
      }
