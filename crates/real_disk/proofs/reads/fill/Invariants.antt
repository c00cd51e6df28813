-- The bytes so far came from the file, in order.
use Rattle.std.proofs.Common.{◌≡◌, ◌-◌, ◌≤◌, length, take}
use Rattle.std.specs.Io.KnownBytes.{Consumes}
use Rattle.real_disk.proofs.reads.fill.Given as goal

abbrev pub invariant-loop-filled : goal.invariant-loop-filled
invariant-loop-filled g l =
    let file = g.F.Read in
    record {
      room : length l.into ≡ length l.fn.into;
      few : l.filled ≤ length l.into;
      bytes : Consumes (file.remaining l.fn.file) (file.remaining l.file) (take l.filled l.into);
    }

abbrev pub decreases-loop-filled : goal.decreases-loop-filled
decreases-loop-filled g l = length l.into - l.filled
