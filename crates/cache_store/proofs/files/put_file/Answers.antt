use Rattle.disk_base.proofs.Composed.{bound_appended, bound_started, bound_synced, done_first, ran_first, ran_stop}
use Rattle.cache_store.proofs.files.put_file.Goals as goal

pub returns-in-Err-append-clause-ran : goal.returns-in-Err-append-clause-ran
returns-in-Err-append-clause-ran g c =
    (ran_first g.D.Disk.told g.D.Disk.moment g.D.Disk.since _ _ _ _ _ c.start.ensures.ran c.in_default.ensures.done
    (ran_stop g.D.Disk.told g.D.Disk.moment g.D.Disk.since _ _ _ _ c.append.ensures.ran))

pub returns-in-Err-sync-clause-ran : goal.returns-in-Err-sync-clause-ran
returns-in-Err-sync-clause-ran g c =
    (ran_first g.D.Disk.told g.D.Disk.moment g.D.Disk.since _ _ _ _ _ c.start.ensures.ran c.in_default.ensures.done
    (ran_first g.D.Disk.told g.D.Disk.moment g.D.Disk.since _ _ _ _ _ c.append.ensures.ran c.in_default-append.ensures.done
    (ran_stop g.D.Disk.told g.D.Disk.moment g.D.Disk.since _ _ _ _ c.sync.ensures.ran)))

pub returns-in-Err-rename-clause-ran : goal.returns-in-Err-rename-clause-ran
returns-in-Err-rename-clause-ran g c =
    (ran_first g.D.Disk.told g.D.Disk.moment g.D.Disk.since _ _ _ _ _ c.start.ensures.ran c.in_default.ensures.done
    (ran_first g.D.Disk.told g.D.Disk.moment g.D.Disk.since _ _ _ _ _ c.append.ensures.ran c.in_default-append.ensures.done
    (ran_first g.D.Disk.told g.D.Disk.moment g.D.Disk.since _ _ _ _ _ c.sync.ensures.ran c.in_default-sync.ensures.done
    (ran_stop g.D.Disk.told g.D.Disk.moment g.D.Disk.since _ _ _ _ c.rename.ensures.ran))))

pub returns-in-Err-sync_names-clause-ran : goal.returns-in-Err-sync_names-clause-ran
returns-in-Err-sync_names-clause-ran g c =
    (ran_first g.D.Disk.told g.D.Disk.moment g.D.Disk.since _ _ _ _ _ c.start.ensures.ran c.in_default.ensures.done
    (ran_first g.D.Disk.told g.D.Disk.moment g.D.Disk.since _ _ _ _ _ c.append.ensures.ran c.in_default-append.ensures.done
    (ran_first g.D.Disk.told g.D.Disk.moment g.D.Disk.since _ _ _ _ _ c.sync.ensures.ran c.in_default-sync.ensures.done
    (ran_first g.D.Disk.told g.D.Disk.moment g.D.Disk.since _ _ _ _ _ c.rename.ensures.ran c.in_default-rename.ensures.done
    c.sync_names.ensures.ran))))

pub returns-clause-ran : goal.returns-clause-ran
returns-clause-ran g c =
    (ran_first g.D.Disk.told g.D.Disk.moment g.D.Disk.since _ _ _ _ _ c.start.ensures.ran c.in_default.ensures.done
    (ran_first g.D.Disk.told g.D.Disk.moment g.D.Disk.since _ _ _ _ _ c.append.ensures.ran c.in_default-append.ensures.done
    (ran_first g.D.Disk.told g.D.Disk.moment g.D.Disk.since _ _ _ _ _ c.sync.ensures.ran c.in_default-sync.ensures.done
    (ran_first g.D.Disk.told g.D.Disk.moment g.D.Disk.since _ _ _ _ _ c.rename.ensures.ran c.in_default-rename.ensures.done
    c.sync_names.ensures.ran))))

pub returns-clause-done : goal.returns-clause-done
returns-clause-done g c =
    (done_first g.D.Disk.told _ _ _ _ _ c.in_default.ensures.done
    (done_first g.D.Disk.told _ _ _ _ _ c.in_default-append.ensures.done
    (done_first g.D.Disk.told _ _ _ _ _ c.in_default-sync.ensures.done
    (done_first g.D.Disk.told _ _ _ _ _ c.in_default-rename.ensures.done
    c.in_default-sync_names.ensures.done))))

pub sync-requires : goal.sync-requires
sync-requires g c =
    bound_appended g.D.Disk.told _ _ _ _ (bound_started g.D.Disk.told _ _ _ c.in_default.ensures.done)
    c.in_default-append.ensures.done

pub rename-requires : goal.rename-requires
rename-requires g c =
    bound_synced g.D.Disk.told _ _ _
    (bound_appended g.D.Disk.told _ _ _ _ (bound_started g.D.Disk.told _ _ _ c.in_default.ensures.done)
    c.in_default-append.ensures.done) c.in_default-sync.ensures.done
