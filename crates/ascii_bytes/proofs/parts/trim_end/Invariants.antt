use Rattle.std.proofs.Common.{◌≡◌, ◌≤◌, length, take}
use Rattle.ascii_bytes.specs.Parts.{trim_end}
use Rattle.ascii_bytes.proofs.parts.trim_end.Given as goal

abbrev pub invariant-loop-end : goal.invariant-loop-end
invariant-loop-end g l = record {
  within : l.end ≤ length l.text;
  cut : trim_end g.C.ByteClass.has (take l.end l.text) ≡ trim_end g.C.ByteClass.has l.text;
}

abbrev pub decreases-loop-end : goal.decreases-loop-end
decreases-loop-end g l = l.end
