-- The walk, line by line.
use Rattle.std.proofs.Common.{◌≡◌, ◌<◌, ◌≤◌, ◌+◌, ◌-◌, ℕ, zero, suc, Bool, true, false, List, [], ◌∷◌, ◌++◌, length, map, reverse, refl, sym, ◌∙◌, ap, subst, arith}
use Rattle.std.specs.List.{flat_map}
use Rattle.std.proofs.lemmas.List.{append-nil, append_assoc}
use Rattle.std.proofs.lemmas.List.Elements.{All-append, All-map}
use Rattle.node_edges.specs.Edges.{edges_of}
use Rattle.resolution.specs.declared.settled.Edge.{Edge}
use Rattle.resolution.specs.declared.settled.Settled.{Settled}
use Rattle.tree_print.specs.Lines.{Branch, branch_at, children, is_among, line_of, lines, root_branches}
use Rattle.tree_print.specs.Stacks.{IsState, IsStep, IsWithin, found, wanted}
use Rattle.tree_print.specs.Texts.{line_text, tree_text}
use Rattle.tree_print.specs.declared.pending.Pending.{Pending}
use Rattle.tree_print.proofs.States.{at_within, same_depth, top_first}

-- after so many lines the text goes on with those of the branches on the stack
pub record IsPrinted (settled : Settled) (line : ℕ) (marks : List Bool) (stack : List Pending) (text : List ℕ) : Type 0 where
  pub above : List ℕ
  pub branches : List Branch
  pub state : IsState settled.edges marks stack above branches
  pub depth : IsWithin line branches
  pub shown : text ++ flat_map (line_text settled.nodes) (lines settled.edges (length settled.edges - line) above branches) ≡ tree_text settled

within_more : (line : ℕ) (branches : List Branch) → IsWithin line branches → IsWithin (line + 1) branches
within_more line branches old k d h = omega (arith, old k d h)

children_within : (edges : List Edge) (was : Bool) (branch : Branch) (line : ℕ) → branch.depth ≤ line → IsWithin (line + 1) (children edges was branch)
children_within edges true branch line h k d within = absurd (omega (arith, within))
children_within edges false branch line h k d within = All-map (λ (b : Branch). b.depth ≤ line + 1) (branch_at (suc branch.depth)) (edges_of edges branch.edge.target) (λ k d within. omega (arith, h)) k d within

first_within : (branch : Branch) (branches : List Branch) (line : ℕ) → IsWithin line (branch ∷ branches) → branch.depth ≤ line
first_within branch branches line old = old 0 branch (omega arith)

rest_within : (branch : Branch) (branches : List Branch) (line : ℕ) → IsWithin line (branch ∷ branches) → IsWithin line branches
rest_within branch branches line old k d h = old (suc k) d (omega (arith, h))

next_text : (settled : Settled) (line : ℕ) (above : List ℕ) (branch : Branch) (branches : List Branch) (text text' : List ℕ) → line < length settled.edges
    → text ++ flat_map (line_text settled.nodes) (lines settled.edges (length settled.edges - line) above (branch ∷ branches)) ≡ tree_text settled
    → text' ≡ text ++ line_text settled.nodes (line_of above branch)
    → text' ++ flat_map (line_text settled.nodes) (lines settled.edges (length settled.edges - (line + 1)) (branch.edge.target ∷ above) (children settled.edges (is_among above branch.edge.target) branch ++ branches)) ≡ tree_text settled
next_text settled line above branch branches text text' h old is =
    let left : length settled.edges - line ≡ suc (length settled.edges - (line + 1)) = omega (arith, h) in
    let rest : List ℕ = flat_map (line_text settled.nodes) (lines settled.edges (length settled.edges - (line + 1)) (branch.edge.target ∷ above) (children settled.edges (is_among above branch.edge.target) branch ++ branches)) in
    ap (λ z. z ++ rest) is
    ∙ append_assoc text (line_text settled.nodes (line_of above branch)) rest
    ∙ ap (λ n. text ++ flat_map (line_text settled.nodes) (lines settled.edges n above (branch ∷ branches))) (sym left)
    ∙ old

module _ (settled : Settled) (line : ℕ) (marks : List Bool) (stack popped : List Pending) (top : Pending) (text : List ℕ) (pop : stack ≡ popped ++ top ∷ []) where
  -- what stands on top is a branch
  some_branch : (above : List ℕ) (branches : List Branch) → IsState settled.edges marks stack above branches → (branch : Branch) × ((rest : List Branch) × (branches ≡ branch ∷ rest))
  some_branch above (branch ∷ rest) state = (branch, (rest, refl))
  some_branch above [] state =
      let none : map (found settled.edges) (reverse (popped ++ top ∷ [])) ≡ [] = subst (λ (s : List Pending). map (found settled.edges) (reverse s) ≡ []) pop state.held in
      let some : map (found settled.edges) (reverse (popped ++ top ∷ [])) ≡ found settled.edges top ∷ map (found settled.edges) (reverse popped) = top_first settled.edges popped top in
      absurd (cc (none, some))

  pub top_at : IsPrinted settled line marks stack text → top.at < length settled.edges
  top_at so =
      let some = some_branch so.above so.branches so.state in
      at_within settled.edges marks popped top so.above some.0 some.1.0 (subst (λ (b : List Branch). IsState settled.edges marks (popped ++ top ∷ []) so.above b) some.1.1 (subst (λ (s : List Pending). IsState settled.edges marks s so.above so.branches) pop so.state))

  pub top_depth : IsPrinted settled line marks stack text → top.depth ≤ line
  top_depth so =
      let some = some_branch so.above so.branches so.state in
      let same : top.depth ≡ some.0.depth =
      same_depth settled.edges marks popped top so.above some.0 some.1.0 (subst (λ (b : List Branch). IsState settled.edges marks (popped ++ top ∷ []) so.above b) some.1.1 (subst (λ (s : List Pending). IsState settled.edges marks s so.above so.branches) pop so.state))
      in
      let within : IsWithin line (some.0 ∷ some.1.0) = subst (IsWithin line) some.1.1 so.depth in
      let h : some.0.depth ≤ line = first_within some.0 some.1.0 line within in
      omega (arith, same, h)

  pub next_line : (marks' : List Bool) (stack' : List Pending) (text' : List ℕ) → line < length settled.edges → IsPrinted settled line marks stack text → IsStep settled marks (popped ++ top ∷ []) text marks' stack' text' → IsPrinted settled (line + 1) marks' stack' text'
  next_line marks' stack' text' h so step =
      let some = some_branch so.above so.branches so.state in
      let branch : Branch = some.0 in
      let branches : List Branch = some.1.0 in
      let state : IsState settled.edges marks (popped ++ top ∷ []) so.above (branch ∷ branches) = subst (λ (b : List Branch). IsState settled.edges marks (popped ++ top ∷ []) so.above b) some.1.1 (subst (λ (s : List Pending). IsState settled.edges marks s so.above so.branches) pop so.state) in
      let within : IsWithin line (branch ∷ branches) = subst (IsWithin line) some.1.1 so.depth in
      record {
        above = branch.edge.target ∷ so.above;
        branches = children settled.edges (is_among so.above branch.edge.target) branch ++ branches;
        state = step.rest so.above branch branches state;
        depth =
            All-append (λ (b : Branch). b.depth ≤ line + 1) (children settled.edges (is_among so.above branch.edge.target) branch) branches
            (children_within settled.edges (is_among so.above branch.edge.target) branch line (first_within branch branches line within)) (within_more line branches (rest_within branch branches line within));
        shown =
            next_text settled line so.above branch branches text text' h
            (subst (λ (b : List Branch). text ++ flat_map (line_text settled.nodes) (lines settled.edges (length settled.edges - line) so.above b) ≡ tree_text settled) some.1.1 so.shown) (step.line so.above branch branches state);
      }

-- nothing is left once the stack is empty
no_lines : (edges : List Edge) (left : ℕ) (above : List ℕ) → lines edges left above [] ≡ []
no_lines edges zero above = refl
no_lines edges (suc left) above = refl

pub last_line : (settled : Settled) (line : ℕ) (marks : List Bool) (stack : List Pending) (text : List ℕ) → stack ≡ [] → IsPrinted settled line marks stack text → text ≡ tree_text settled
last_line settled line marks stack text empty so = by so.branches (subst (λ (s : List Pending). map (found settled.edges) (reverse s) ≡ map wanted so.branches) empty so.state.held) so.shown
  where
    by : (branches : List Branch) → [] ≡ map wanted branches → text ++ flat_map (line_text settled.nodes) (lines settled.edges (length settled.edges - line) so.above branches) ≡ tree_text settled → text ≡ tree_text settled
    by [] none is = sym (append-nil text) ∙ ap (λ z. text ++ flat_map (line_text settled.nodes) z) (sym (no_lines settled.edges (length settled.edges - line) so.above)) ∙ is
    by (branch ∷ branches) none is = absurd (cc none)

roots_within : (edges : List Edge) → IsWithin 0 (root_branches edges)
roots_within edges = All-map (λ (b : Branch). b.depth ≤ 0) (branch_at 0) _ (λ k d within. omega arith)

pub first_line : (settled : Settled) (marks : List Bool) (stack : List Pending) (text : List ℕ) → text ≡ [] → IsState settled.edges marks stack [] (root_branches settled.edges) → IsPrinted settled 0 marks stack text
first_line settled marks stack text empty state =
    record {
      above = [];
      branches = root_branches settled.edges;
      state = state;
      depth = roots_within settled.edges;
      shown =
          ap (λ z. z ++ flat_map (line_text settled.nodes) (lines settled.edges (length settled.edges - 0) [] (root_branches settled.edges))) empty
          ∙ ap (λ n. flat_map (line_text settled.nodes) (lines settled.edges n [] (root_branches settled.edges))) (omega arith);
    }
