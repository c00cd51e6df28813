use Rattle.file_fetch.proofs.Keeping.{any_then, store_any, faith_trans}
use Rattle.file_fetch.proofs.small_files.keep_bytes.Goals as goal

pub returns-in-Ok-clause-store : goal.returns-in-Ok-clause-store
returns-in-Ok-clause-store g c =
    any_then g.D.Disk.told g.D.Disk.moment g.D.Disk.since _ _ _ _ c.in-Ok.ensures.store c.fill_part.ensures.store

pub returns-in-Err-clause-store : goal.returns-in-Err-clause-store
returns-in-Err-clause-store g c = store_any g.D.Disk.told g.D.Disk.moment g.D.Disk.since _ _ _ c.in-Err.ensures.store

pub returns-in-Ok-clause-faithful : goal.returns-in-Ok-clause-faithful
returns-in-Ok-clause-faithful g c = λ w file.
    faith_trans g.D.Disk.told g.D.Disk.moment g.D.Disk.since w _ _ _ (c.in-Ok.ensures.faithful w) (c.fill_part.ensures.faithful w c.in-Ok.ensures.content file)

pub returns-in-Err-clause-faithful : goal.returns-in-Err-clause-faithful
returns-in-Err-clause-faithful g c = λ w file. c.in-Err.ensures.faithful w
