use Rattle.std.proofs.Common.{◌≡◌, ◌≤◌, ◌-◌, drop, length}
use Rattle.pom_grammar.specs.Machine.{back}
use Rattle.pom_grammar.specs.Verdicts.{verdict, whole_verdict}
use Rattle.pom_text.specs.Views.{open_view}
use Rattle.pom_text.proofs.reading.read_with.Given as goal

abbrev pub invariant-loop-at : goal.invariant-loop-at
invariant-loop-at l =
    (l.at ≤ length l.bytes)
    × (whole_verdict l.bytes ≡ verdict l.encoding (back (open_view l.stack)) (drop l.at l.bytes) l.at)

abbrev pub decreases-loop-at : goal.decreases-loop-at
decreases-loop-at l = length l.initial.bytes - l.at
