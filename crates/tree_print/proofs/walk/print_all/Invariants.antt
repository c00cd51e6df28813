use Rattle.std.proofs.Common.{◌≡◌, length}
use Rattle.tree_print.proofs.Loops.{IsPrinted}
use Rattle.tree_print.proofs.walk.print_all.Given as goal

abbrev pub invariant-loop-line : goal.invariant-loop-line
invariant-loop-line l = record { size : length l.marks ≡ length l.settled.nodes; printed : IsPrinted l.settled l._line l.marks l.stack l.text }
