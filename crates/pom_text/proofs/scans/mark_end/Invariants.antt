use Rattle.std.proofs.Common.{length, ◌-◌}
use Rattle.pom_text.specs.Scans.{MarkRun}
use Rattle.pom_text.proofs.scans.mark_end.Given as goal

abbrev pub invariant-loop-i : goal.invariant-loop-i
invariant-loop-i l = MarkRun l.encoding l.bytes l.sign l.least l.at l.i l.count

abbrev pub decreases-loop-i : goal.decreases-loop-i
decreases-loop-i l = length l.initial.bytes - l.i
