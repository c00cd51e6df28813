use Rattle.disk_base.proofs.Composed.{done_first, ran_first, ran_stop}
use Rattle.cache_store.proofs.files.remove_file.Goals as goal

pub returns-in-Err-remove-clause-ran : goal.returns-in-Err-remove-clause-ran
returns-in-Err-remove-clause-ran g c =
    (ran_first g.D.Disk.told g.D.Disk.moment g.D.Disk.since _ _ _ _ _ c.remove.ensures.ran c.in_default.ensures.done
    (ran_stop g.D.Disk.told g.D.Disk.moment g.D.Disk.since _ _ _ _ c.remove-2.ensures.ran))

pub returns-in-Err-sync_names-clause-ran : goal.returns-in-Err-sync_names-clause-ran
returns-in-Err-sync_names-clause-ran g c =
    (ran_first g.D.Disk.told g.D.Disk.moment g.D.Disk.since _ _ _ _ _ c.remove.ensures.ran c.in_default.ensures.done
    (ran_first g.D.Disk.told g.D.Disk.moment g.D.Disk.since _ _ _ _ _ c.remove-2.ensures.ran c.in_default-remove.ensures.done
    c.sync_names.ensures.ran))

pub returns-clause-ran : goal.returns-clause-ran
returns-clause-ran g c =
    (ran_first g.D.Disk.told g.D.Disk.moment g.D.Disk.since _ _ _ _ _ c.remove.ensures.ran c.in_default.ensures.done
    (ran_first g.D.Disk.told g.D.Disk.moment g.D.Disk.since _ _ _ _ _ c.remove-2.ensures.ran c.in_default-remove.ensures.done
    c.sync_names.ensures.ran))

pub returns-clause-done : goal.returns-clause-done
returns-clause-done g c =
    (done_first g.D.Disk.told _ _ _ _ _ c.in_default.ensures.done
    (done_first g.D.Disk.told _ _ _ _ _ c.in_default-remove.ensures.done
    c.in_default-sync_names.ensures.done))
