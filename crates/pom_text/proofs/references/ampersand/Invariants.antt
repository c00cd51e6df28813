use Rattle.std.proofs.Common.{◌≡◌, true, slice_range}
use Rattle.pom_text.specs.Texts.{has_no_ampersand}
use Rattle.pom_text.proofs.references.ampersand.Given as goal

abbrev pub invariant-loop-i : goal.invariant-loop-i
invariant-loop-i l = has_no_ampersand (slice_range l.run l.from l.i) ≡ true
