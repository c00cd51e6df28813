use Rattle.std.proofs.lemmas.Result.{on_ok_weaker}
use Rattle.disk_base.proofs.Composed.{done_first, ran_first}
use Rattle.cache_store.proofs.files.upgrade_files.Goals as goal

pub returns-clause-ran : goal.returns-clause-ran
returns-clause-ran g c =
    ran_first g.D.Disk.told g.D.Disk.moment g.D.Disk.since _ _ _ _ _ c.sync_names.ensures.ran c.in_default.ensures.done c.put_file.ensures.ran

pub returns-clause-done : goal.returns-clause-done
returns-clause-done g c =
    on_ok_weaker c.put_file.result (λ d. done_first g.D.Disk.told _ _ _ _ _ c.in_default.ensures.done d)
    c.put_file.ensures.done
