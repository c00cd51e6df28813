use Rattle.std.proofs.Common.{◌≤◌, take}
use Rattle.disk_base.specs.Runs.{Done}
use Rattle.cache_images.specs.Sequences.{removed}
use Rattle.cache_store.specs.Kept.{AnyFile, KeepsImages}
use Rattle.cache_store.proofs.opening.remove_all.Given as goal

abbrev pub invariant-loop-name : goal.invariant-loop-name
invariant-loop-name g l = record {
  images : KeepsImages g.D.Disk.told g.D.Disk.moment g.D.Disk.since AnyFile l.fn.disk l.disk;
  done : Done g.D.Disk.told (removed (take l.name-index l.names)) l.fn.disk l.disk;
  faults : g.D.Disk.faults l.fn.disk ≤ g.D.Disk.faults l.disk;
}
