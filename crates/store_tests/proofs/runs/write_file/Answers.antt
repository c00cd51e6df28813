use Rattle.disk_base.proofs.Composed.{bound_appended, bound_started}
use Rattle.store_tests.proofs.runs.write_file.Goals as goal

pub append-requires : goal.append-requires
append-requires g c = bound_started g.D.Disk.told _ _ _ c.in_ok-start.ensures.done

pub sync-requires : goal.sync-requires
sync-requires g c =
    bound_appended g.D.Disk.told _ _ _ _ (bound_started g.D.Disk.told _ _ _ c.in_ok-start.ensures.done)
    c.in_ok-append.ensures.done
