use Rattle.res_base.specs.declared.reading.Answer.TheVariants.{Damaged, Stored}
use Rattle.file_fetch.specs.Worlds.{IsWorldsArtifact}
use Rattle.file_fetch.proofs.Keeping.{store_trans, then_any, faith_trans}
use Rattle.std.proofs.Common.{◌≡◌, ◌∙◌, Some, None, ap}
use Rattle.answer_reading.specs.Readings.{reading_of}
use Rattle.file_fetch.proofs.Judging.{if_ok, judged_reading}
use Rattle.pool_rules.specs.Plans.{url_in}
use Rattle.res_base.specs.World.{at}
use Rattle.res_base.specs.declared.key.Role.TheVariants.{Artifact}
use Rattle.file_fetch.proofs.Faith.{accepted_by, file_of}
use Rattle.file_fetch.proofs.artifacts.accept.Goals as goal

pub returns-in-Ok-None-clause-store : goal.returns-in-Ok-None-clause-store
returns-in-Ok-None-clause-store g c =
    store_trans g.D.Disk.told g.D.Disk.moment g.D.Disk.since _ _ _ _ c.in-Ok-None.ensures.store c.publish_stored.ensures.store

pub returns-in-Ok-Some-clause-store : goal.returns-in-Ok-Some-clause-store
returns-in-Ok-Some-clause-store g c =
    then_any g.D.Disk.told g.D.Disk.moment g.D.Disk.since _ _ _ _ c.in-Ok-Some.ensures.store c.leave.ensures.store

pub returns-in-Ok-None-clause-answer : goal.returns-in-Ok-None-clause-answer
returns-in-Ok-None-clause-answer g c = λ w key all holds is fits size demand.
    let plan = c.args.plan.now in
    let url = url_in plan key in
    if_ok c.publish_stored.result (λ got. got ≡ Stored c.args.count) (IsWorldsArtifact w plan key)
    c.publish_stored.ensures.value (λ got e. ap (reading_of Artifact) e
    ∙ judged_reading (at w) plan.checks plan.limit url all c.args.count c.args.demand None size demand
    (rw c.in-Ok-None.field-0-is at (c.in-Ok-None.ensures.damage all holds.sums)) (c.demands_judged.ensures.answer (at w) url all plan.checks plan.limit is fits))

pub returns-in-Ok-Some-clause-answer : goal.returns-in-Ok-Some-clause-answer
returns-in-Ok-Some-clause-answer g c = λ w key all holds is fits size demand.
    let plan = c.args.plan.now in
    let url = url_in plan key in
    if_ok c.leave.result (λ got. got ≡ Damaged c.in-Ok-Some.damage) (IsWorldsArtifact w plan key)
    c.leave.ensures.value (λ got e. ap (reading_of Artifact) e
    ∙ judged_reading (at w) plan.checks plan.limit url all c.args.count c.args.demand (Some c.in-Ok-Some.damage) size demand
    (rw c.in-Ok-Some.field-0-is at (c.in-Ok-Some.ensures.damage all holds.sums)) (c.demands_judged.ensures.answer (at w) url all plan.checks plan.limit is fits))

pub returns-in-Ok-None-clause-faithful : goal.returns-in-Ok-None-clause-faithful
returns-in-Ok-None-clause-faithful g c = λ w key all held named is demand.
    let plan = c.args.plan.now in
    let url = url_in plan key in
    let none = rw c.in-Ok-None.field-0-is at (c.in-Ok-None.ensures.damage all held.sums) in
    let accepted = accepted_by (at w) plan.checks url all c.args.demand c.demands_judged.ensures.checked demand none in
    faith_trans g.D.Disk.told g.D.Disk.moment g.D.Disk.since w _ _ _ (c.in-Ok-None.ensures.faithful w)
    (c.publish_stored.ensures.faithful w all plan.checks _ (c.in-Ok-None.ensures.content c.requires.few all held.content)
    (c.in-Ok-None.ensures.recorded c.in-Ok-None.field-0-is)
    (file_of w _ url all plan.checks c.names_apart.ensures named is accepted))

pub returns-in-Ok-Some-clause-faithful : goal.returns-in-Ok-Some-clause-faithful
returns-in-Ok-Some-clause-faithful g c = λ w key all held named is demand.
    faith_trans g.D.Disk.told g.D.Disk.moment g.D.Disk.since w _ _ _ (c.in-Ok-Some.ensures.faithful w) (c.leave.ensures.faithful w)

pub returns-in-Err-clause-faithful : goal.returns-in-Err-clause-faithful
returns-in-Err-clause-faithful g c = λ w key all held named is demand. c.in-Err.ensures.faithful w
