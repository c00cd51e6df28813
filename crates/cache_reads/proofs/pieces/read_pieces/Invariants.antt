use Rattle.std.proofs.Common.{◌≡◌, ◌≤◌, ◌+◌, ◌-◌, ◌^◌, length}
use Rattle.cache_reads.proofs.Piecewise.{SoFar}
use Rattle.cache_reads.proofs.pieces.read_pieces.Given as goal

abbrev pub invariant-pieces : goal.invariant-pieces
invariant-pieces g l = record {
  so : SoFar g.D.Disk.told g.D.Disk.moment g.D.Disk.since l.fn.name l.fn.disk l.disk (g.T.Taker.took l.fn.taker)
      (g.T.Taker.took l.taker) l.at;
  room : length l.room ≡ length l.fn.room;
  second : g.T.Taker.second l.taker ≡ g.T.Taker.second l.fn.taker;
  faults : g.D.Disk.faults l.disk ≡ g.D.Disk.faults l.fn.disk;
  last : g.D.Disk.last l.disk ≡ g.D.Disk.last l.fn.disk;
  few : l.at ≤ 2 ^ 63 + 65535;
}

abbrev pub decreases-pieces : goal.decreases-pieces
decreases-pieces g l = 2 ^ 63 + 65536 - l.at
