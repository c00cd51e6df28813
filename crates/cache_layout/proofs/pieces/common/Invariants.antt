use Rattle.std.proofs.Common.{◌≡◌, ◌+◌, drop}
use Rattle.cache_layout.specs.Places.{common}
use Rattle.cache_layout.proofs.pieces.common.Given as goal

abbrev pub invariant-loop-i : goal.invariant-loop-i
invariant-loop-i l = common l.word l.text ≡ l.i + common (drop l.i l.word) (drop l.i l.text)
