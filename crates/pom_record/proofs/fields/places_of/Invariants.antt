use Rattle.pom_record.proofs.Sorted.{IsSortedFrom}
use Rattle.pom_record.proofs.fields.places_of.Given as goal

abbrev pub invariant-loop-at : goal.invariant-loop-at
invariant-loop-at l = IsSortedFrom l.children l.places l.at

abbrev pub decreases-loop-at : goal.decreases-loop-at
decreases-loop-at l = l.at
