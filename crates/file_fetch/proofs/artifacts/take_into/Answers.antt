use Rattle.res_base.specs.declared.reading.Answer.TheVariants.{TooLarge}
use Rattle.file_fetch.specs.Worlds.{IsWorldsArtifact}
use Rattle.std.proofs.Common.{◌≡◌, ◌∙◌, ap, sym}
use Rattle.answer_reading.specs.Readings.{reading_of}
use Rattle.file_fetch.proofs.Judging.{if_ok, large_at}
use Rattle.file_fetch.proofs.Receiving.{large_of, whole_of}
use Rattle.pool_rules.specs.Plans.{url_in}
use Rattle.res_base.specs.World.{at}
use Rattle.res_base.specs.declared.key.Role.TheVariants.{Artifact}
use Rattle.cache_store.specs.Kept.{AnyFile}
use Rattle.file_fetch.proofs.Keeping.{any_then, store_any, store_trans, faith_trans}
use Rattle.file_fetch.proofs.artifacts.take_into.Goals as goal

pub returns-in-Ok-Some-clause-answer : goal.returns-in-Ok-Some-clause-answer
returns-in-Ok-Some-clause-answer g c = λ w agrees empty demand.
    let got = whole_of _ _ _ _ (rw c.in-Ok-Some.field-0-is at (c.in-Ok-Some.ensures.answer w agrees empty)) in
    c.accept.ensures.answer w c.args.key.now got.bytes got.holds got.is got.fits got.size demand

pub returns-in-Ok-None-clause-answer : goal.returns-in-Ok-None-clause-answer
returns-in-Ok-None-clause-answer g c = λ w agrees empty demand.
    let plan = c.args.plan.now in
    let url = url_in plan c.args.key.now in
    let big = large_of _ _ _ (rw c.in-Ok-None.field-0-is at (c.in-Ok-None.ensures.answer w agrees empty)) in
    if_ok c.leave.result (λ got. got ≡ TooLarge) (IsWorldsArtifact w plan c.args.key.now) c.leave.ensures.value
    (λ got e. ap (reading_of Artifact) (e ∙ sym (large_at (at w) plan.checks plan.limit url big.bytes big.is big.past)))

pub returns-in-Ok-Some-clause-store : goal.returns-in-Ok-Some-clause-store
returns-in-Ok-Some-clause-store g c = any_then g.D.Disk.told g.D.Disk.moment g.D.Disk.since _ _ _ _ c.in-Ok-Some.ensures.store c.accept.ensures.store

pub returns-in-Ok-None-clause-store : goal.returns-in-Ok-None-clause-store
returns-in-Ok-None-clause-store g c =
    store_any g.D.Disk.told g.D.Disk.moment g.D.Disk.since _ _ _ (store_trans g.D.Disk.told g.D.Disk.moment g.D.Disk.since AnyFile _ _ _ c.in-Ok-None.ensures.store c.leave.ensures.store)

pub returns-in-Err-Link-clause-store : goal.returns-in-Err-Link-clause-store
returns-in-Err-Link-clause-store g c =
    store_any g.D.Disk.told g.D.Disk.moment g.D.Disk.since _ _ _ (store_trans g.D.Disk.told g.D.Disk.moment g.D.Disk.since AnyFile _ _ _ c.in-Err-Link.ensures.store c.abandon.ensures.store)

pub returns-in-Err-Disk-clause-store : goal.returns-in-Err-Disk-clause-store
returns-in-Err-Disk-clause-store g c = store_any g.D.Disk.told g.D.Disk.moment g.D.Disk.since _ _ _ c.in-Err-Disk.ensures.store

pub returns-in-Err-NoMemory-clause-store : goal.returns-in-Err-NoMemory-clause-store
returns-in-Err-NoMemory-clause-store g c = store_any g.D.Disk.told g.D.Disk.moment g.D.Disk.since _ _ _ c.in-Err-NoMemory.ensures.store

pub returns-in-Ok-Some-clause-faithful : goal.returns-in-Ok-Some-clause-faithful
returns-in-Ok-Some-clause-faithful g c = λ w agrees empty demand.
    let got = whole_of _ _ _ _ (rw c.in-Ok-Some.field-0-is at (c.in-Ok-Some.ensures.answer w agrees empty)) in
    faith_trans g.D.Disk.told g.D.Disk.moment g.D.Disk.since w _ _ _ (c.in-Ok-Some.ensures.faithful w)
    (c.accept.ensures.faithful w c.args.key.now got.bytes got.holds c.requires.url got.is demand)

pub returns-in-Ok-None-clause-faithful : goal.returns-in-Ok-None-clause-faithful
returns-in-Ok-None-clause-faithful g c = λ w agrees empty demand.
    faith_trans g.D.Disk.told g.D.Disk.moment g.D.Disk.since w _ _ _ (c.in-Ok-None.ensures.faithful w) (c.leave.ensures.faithful w)

pub returns-in-Err-Link-clause-faithful : goal.returns-in-Err-Link-clause-faithful
returns-in-Err-Link-clause-faithful g c = λ w agrees empty demand.
    faith_trans g.D.Disk.told g.D.Disk.moment g.D.Disk.since w _ _ _ (c.in-Err-Link.ensures.faithful w) (c.abandon.ensures.faithful w)

pub returns-in-Err-Disk-clause-faithful : goal.returns-in-Err-Disk-clause-faithful
returns-in-Err-Disk-clause-faithful g c = λ w agrees empty demand. c.in-Err-Disk.ensures.faithful w

pub returns-in-Err-NoMemory-clause-faithful : goal.returns-in-Err-NoMemory-clause-faithful
returns-in-Err-NoMemory-clause-faithful g c = λ w agrees empty demand. c.in-Err-NoMemory.ensures.faithful w
