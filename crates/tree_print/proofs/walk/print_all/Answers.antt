use Rattle.std.proofs.Common.{◌≡◌, ◌<◌, ◌≤◌, length, ◌∙◌, arith}
use Rattle.tree_print.proofs.Loops.{first_line, last_line, next_line, top_at, top_depth}
use Rattle.tree_print.proofs.walk.print_all.Goals as goal

pub loop-line-init : goal.loop-line-init
loop-line-init c = record { size = c.requires.marks; printed = first_line c.args.settled.now c.args.marks.now c.args.first c.new-text.result c.new-text.ensures c.requires.start }

pub returns-in-None : goal.returns-in-None
returns-in-None c = last_line c.args.settled.now c.loop-line._line c.loop-line.marks c.loop-line.stack c.loop-line.text c.in-None.ensures.0 c.loop-line.invariant.printed

pub print_branch-requires-clause-at : goal.print_branch-requires-clause-at
print_branch-requires-clause-at c =
    top_at c.args.settled.now c.loop-line._line c.loop-line.marks c.loop-line.stack c.pop.new.self c.in-Some.top c.loop-line.text c.in-Some.ensures c.loop-line.invariant.printed

pub print_branch-requires-clause-depth : goal.print_branch-requires-clause-depth
print_branch-requires-clause-depth c =
    let deep : c.in-Some.top.depth ≤ c.loop-line._line = top_depth c.args.settled.now c.loop-line._line c.loop-line.marks c.loop-line.stack c.pop.new.self c.in-Some.top c.loop-line.text c.in-Some.ensures c.loop-line.invariant.printed in
    let here : c.loop-line._line < length c.args.settled.now.edges = omega arith in
    omega (arith, deep, here)

pub loop-line-preserved : goal.loop-line-preserved
loop-line-preserved c =
    let here : c.loop-line._line < length c.args.settled.now.edges = omega arith in
    record {
      size = c.in_ok-print_branch-in-Some.ensures.size ∙ c.loop-line.invariant.size;
      printed =
          next_line c.args.settled.now c.loop-line._line c.loop-line.marks c.loop-line.stack c.pop.new.self c.in-Some.top c.loop-line.text c.in-Some.ensures c.print_branch.new.marks c.print_branch.new.stack c.print_branch.new.text
          here c.loop-line.invariant.printed c.in_ok-print_branch-in-Some.ensures.step;
    }
