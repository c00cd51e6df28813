use Rattle.std.proofs.Common.{◌≡◌, drop}
use Rattle.ascii_bytes.specs.Parts.{trim_start}
use Rattle.ascii_bytes.proofs.parts.trim_start.Given as goal

abbrev pub invariant-loop-i : goal.invariant-loop-i
invariant-loop-i g l = trim_start g.C.ByteClass.has (drop l.i l.text) ≡ trim_start g.C.ByteClass.has l.text
