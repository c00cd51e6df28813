use Rattle.std.proofs.Common.{◌≡◌, true, slice_range}
use Rattle.std.specs.List.{list_all}
use Rattle.ascii_bytes.proofs.parts.class_end.Given as goal

abbrev pub invariant-loop-i : goal.invariant-loop-i
invariant-loop-i g l = list_all g.C.ByteClass.has (slice_range l.text l.from l.i) ≡ true
