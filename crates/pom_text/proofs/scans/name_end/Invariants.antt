use Rattle.std.proofs.Common.{length, ◌-◌, ◌≤◌}
use Rattle.pom_grammar.specs.Machine.{Kind}
use Rattle.pom_text.specs.Scans.{Runs, IsNaming}
use Rattle.pom_text.proofs.scans.name_end.Given as goal

abbrev pub invariant-loop-i : goal.invariant-loop-i
invariant-loop-i l =
    ((kind : Kind) → IsNaming kind → Runs l.encoding l.bytes kind l.at l.i) × (l.i ≤ length l.bytes) × (l.at ≤ l.i)

abbrev pub decreases-loop-i : goal.decreases-loop-i
decreases-loop-i l = length l.initial.bytes - l.i
