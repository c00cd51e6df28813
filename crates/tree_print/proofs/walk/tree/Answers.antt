use Rattle.std.proofs.Common.{◌≡◌, ◌++◌, false, map, replicate, reverse, rules, ◌∙◌, ap}
use Rattle.node_edges.specs.Edges.{root_edges}
use Rattle.node_edges.specs.Table.{ArePlaces}
use Rattle.tree_print.specs.Stacks.{pending_at}
use Rattle.tree_print.proofs.States.{start_state}
use Rattle.tree_print.proofs.walk.tree.Goals as goal

pub print_all-requires-clause-start : goal.print_all-requires-clause-start
print_all-requires-clause-start c =
    let none : c.as_mut_slice.result.now ≡ replicate c.len-count.result false = c.as_mut_slice.ensures.value ∙ c.in_ok-marks.ensures.items_if_clones_equal (λ y is. search rules) in
    let places : ArePlaces c.args.settled.now.edges c.in_ok-table.table.roots (root_edges c.args.settled.now.edges) = cc (c.in_ok-table.ensures.roots, c.as_slice.ensures) in
    let stack : c.push_unless.new.stack ≡ map (pending_at 0) (reverse c.in_ok-table.table.roots) =
    c.in_ok-push_unless.ensures ∙ ap (λ z. z ++ map (pending_at 0) (reverse c.as_slice-2.result.now)) c.new-first.ensures ∙ ap (λ z. map (pending_at 0) (reverse z)) c.as_slice-2.ensures
    in
    start_state c.args.settled.now.edges c.len-count.result c.as_mut_slice.result.now c.push_unless.new.stack c.in_ok-table.table.roots none places stack
