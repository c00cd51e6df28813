use Rattle.file_fetch.proofs.Keeping.{store_trans, faith_trans}
use Rattle.file_fetch.proofs.small_files.finish_part.Goals as goal

pub unreachable-requires : goal.unreachable-requires
unreachable-requires g c =
    let same = c.in-Ok-Some.ensures.digest c.requires.open.holds.0 c.requires.open.holds.1 in
    let no : ⊥ = cc in no

pub returns-in-Ok-None-clause-store : goal.returns-in-Ok-None-clause-store
returns-in-Ok-None-clause-store g c =
    store_trans g.D.Disk.told g.D.Disk.moment g.D.Disk.since _ _ _ _ c.in-Ok-None.ensures.store c.publish_part.ensures.store

pub returns-in-Ok-None-clause-faithful : goal.returns-in-Ok-None-clause-faithful
returns-in-Ok-None-clause-faithful g c = λ w bytes content file.
    faith_trans g.D.Disk.told g.D.Disk.moment g.D.Disk.since w _ _ _ (c.in-Ok-None.ensures.faithful w)
    (c.publish_part.ensures.faithful w bytes _ _ (c.in-Ok-None.ensures.content c.requires.few bytes content)
    (c.in-Ok-None.ensures.recorded c.in-Ok-None.field-0-is) file)

pub returns-in-Err-clause-faithful : goal.returns-in-Err-clause-faithful
returns-in-Err-clause-faithful g c = λ w bytes content file. c.in-Err.ensures.faithful w
