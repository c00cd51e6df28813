use Rattle.cache_store.specs.Kept.{AnyFile}
use Rattle.file_fetch.proofs.Keeping.{faith_trans, store_trans}
use Rattle.file_fetch.proofs.cached.use_data.Goals as goal

pub returns-in-Ok-renew_record-clause-store : goal.returns-in-Ok-renew_record-clause-store
returns-in-Ok-renew_record-clause-store g c =
    store_trans g.D.Disk.told g.D.Disk.moment g.D.Disk.since AnyFile _ _ _ c.in-Ok.ensures.store c.in-Ok-renew_record.ensures.store

pub returns-in-Ok-renew_record-clause-faithful : goal.returns-in-Ok-renew_record-clause-faithful
returns-in-Ok-renew_record-clause-faithful g c = λ w.
    faith_trans g.D.Disk.told g.D.Disk.moment g.D.Disk.since w _ _ _ (c.in-Ok.ensures.faithful w) (c.in-Ok-renew_record.ensures.faithful w)

pub returns-in-Err-renew_record-clause-store : goal.returns-in-Err-renew_record-clause-store
returns-in-Err-renew_record-clause-store g c =
    store_trans g.D.Disk.told g.D.Disk.moment g.D.Disk.since AnyFile _ _ _ c.in-Ok.ensures.store c.in-Err-renew_record.ensures.store

pub returns-in-Err-renew_record-clause-faithful : goal.returns-in-Err-renew_record-clause-faithful
returns-in-Err-renew_record-clause-faithful g c = λ w.
    faith_trans g.D.Disk.told g.D.Disk.moment g.D.Disk.since w _ _ _ (c.in-Ok.ensures.faithful w) (c.in-Err-renew_record.ensures.faithful w)
