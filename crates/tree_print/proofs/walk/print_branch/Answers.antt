use Rattle.std.proofs.Common.{◌≡◌, ◌<◌, ◌+◌, ◌++◌, [], ◌∷◌, Some, true, length, map, reverse, get_or, set, sym, ◌∙◌, ap, subst}
use Rattle.std.specs.Prelude.{if◌then◌else◌, slice_get}
use Rattle.std.proofs.lemmas.List.{get_or_default}
use Rattle.std.proofs.lemmas.Result.{on_ok_weaker}
use Rattle.node_edges.specs.Edges.{edges_of}
use Rattle.node_edges.specs.Table.{ArePlaces, row_at}
use Rattle.resolution.specs.declared.settled.Edge.{Edge}
use Rattle.tree_print.specs.Lines.{line_at}
use Rattle.tree_print.specs.Stacks.{pending_at}
use Rattle.tree_print.specs.Texts.{line_text}
use Rattle.tree_print.proofs.Steps.{step_made, target_within}
use Rattle.tree_print.proofs.walk.print_branch.Goals as goal

pub returns-clause-step : goal.returns-clause-step
returns-clause-step c =
    let e : Edge = c.index-as_slice-top.result in
    let is : e ≡ get_or c.args.settled.now.edges c.args.top.at e = cc (c.index-as_slice-top.is, c.as_slice.ensures) in
    let node : e.target < length c.args.settled.now.nodes = target_within c.args.settled.now c.args.top.at e c.requires.settlement c.requires.at is in
    let marked : e.target < length c.args.marks.now = subst (λ n. e.target < n) (sym c.requires.marks) node in
    let was : slice_get c.args.marks.now e.target ≡ Some c.mark-above.result = c.mark-above.ensures.was in
    let marks : c.mark-above.new.marks ≡ set c.args.marks.now e.target true = c.mark-above.ensures.marked in
    let line : c.put_line.new.text ≡ c.args.text.now ++ line_text c.args.settled.now.nodes (line_at c.args.top.depth e c.mark-above.result) = c.in_ok-put_line.ensures in
    let there : e.target < length c.args.table.now.rows = subst (λ n. e.target < n) (sym c.requires.table.size) node in
    let read : c.index-as_slice-target.result ≡ get_or c.args.table.now.rows e.target c.index-as_slice-target.result = cc (c.index-as_slice-target.is, c.as_slice-2.ensures) in
    let row : c.as_slice-children.result.now ≡ row_at c.args.table.now.rows e.target = c.as_slice-children.ensures ∙ read ∙ get_or_default c.args.table.now.rows e.target c.index-as_slice-target.result [] there in
    let places : ArePlaces c.args.settled.now.edges c.as_slice-children.result.now (edges_of c.args.settled.now.edges e.target) =
    subst (λ found. ArePlaces c.args.settled.now.edges found (edges_of c.args.settled.now.edges e.target)) (sym row) (c.requires.table.rows e.target node)
    in
    on_ok_weaker c.push_unless.result
    (λ (pushed : c.push_unless.new.stack ≡ c.args.stack.now ++ (if c.mark-above.result then [] else map (pending_at (c.args.top.depth + 1)) (reverse c.as_slice-children.result.now))).
    step_made c.args.settled.now c.args.marks.now c.mark-above.new.marks c.args.stack.now c.push_unless.new.stack c.args.text.now c.put_line.new.text c.args.top e c.mark-above.result c.as_slice-children.result.now c.requires.at is marked was places line marks pushed)
    c.push_unless.ensures
