use Rattle.disk_base.proofs.Composed.{bound_synced}
use Rattle.outside_tests.proofs.disk_runs.put_file.Goals as goal

pub rename-requires : goal.rename-requires
rename-requires g c = bound_synced g.D.Disk.told _ _ _ c.in_ok-write.ensures c.in_ok-sync.ensures.done
