use Rattle.std.proofs.Common.{length, ◌-◌}
use Rattle.pom_grammar.specs.Machine.{in_run}
use Rattle.pom_text.specs.Scans.{Runs}
use Rattle.pom_text.proofs.scans.text_end.Given as goal

abbrev pub invariant-loop-i : goal.invariant-loop-i
invariant-loop-i l = Runs l.encoding l.bytes in_run l.at l.i

abbrev pub decreases-loop-i : goal.decreases-loop-i
decreases-loop-i l = length l.initial.bytes - l.i
