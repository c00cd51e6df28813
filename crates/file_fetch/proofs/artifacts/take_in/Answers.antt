use Rattle.file_fetch.proofs.Keeping.{any_then, store_any, faith_trans}
use Rattle.file_fetch.proofs.artifacts.take_in.Goals as goal

pub returns-in-Ok-clause-store : goal.returns-in-Ok-clause-store
returns-in-Ok-clause-store g c = any_then g.D.Disk.told g.D.Disk.moment g.D.Disk.since _ _ _ _ c.in-Ok.ensures.store c.take_into.ensures.store

pub returns-in-Err-clause-store : goal.returns-in-Err-clause-store
returns-in-Err-clause-store g c = store_any g.D.Disk.told g.D.Disk.moment g.D.Disk.since _ _ _ c.in-Err.ensures.store

pub returns-in-Ok-clause-faithful : goal.returns-in-Ok-clause-faithful
returns-in-Ok-clause-faithful g c = λ w agrees demand.
    faith_trans g.D.Disk.told g.D.Disk.moment g.D.Disk.since w _ _ _ (c.in-Ok.ensures.faithful w)
    (c.take_into.ensures.faithful w agrees (record { sums = c.in-Ok.ensures.empty; content = c.in-Ok.ensures.content }) demand)

pub returns-in-Ok-clause-answer : goal.returns-in-Ok-clause-answer
returns-in-Ok-clause-answer g c = λ w agrees demand.
    c.take_into.ensures.answer w agrees (record { sums = c.in-Ok.ensures.empty; content = c.in-Ok.ensures.content }) demand

pub returns-in-Err-clause-faithful : goal.returns-in-Err-clause-faithful
returns-in-Err-clause-faithful g c = λ w agrees demand. c.in-Err.ensures.faithful w
