use Rattle.std.proofs.Common.{take}
use Rattle.cache_layout.specs.Places.{Lacks}
use Rattle.cache_layout.proofs.pieces.part.Given as goal

abbrev pub invariant-loop-i : goal.invariant-loop-i
invariant-loop-i l = Lacks l.byte (take l.i l.text)
