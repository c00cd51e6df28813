use Rattle.std.proofs.Common.{sym, ◌∙◌}
use Rattle.std.proofs.lemmas.Result.{IfOk-weaker}
use Rattle.disk_base.proofs.Composed.{ran_reads, told_read}
use Rattle.disk_base.specs.Names.{read_name}
use Rattle.cache_reads.proofs.Plans.{plan_absent, plan_there}
use Rattle.cache_reads.proofs.planning.plan_by.Goals as goal

pub returns-clause-ran : goal.returns-clause-ran
returns-clause-ran g c =
    ran_reads g.D.Disk.told g.D.Disk.moment g.D.Disk.since c.args.disk.now c.is_there.new.disk c.plan_data.new.disk
    c.is_there.ensures.ran c.plan_data.ensures.ran

pub returns-then-not-branch-clause-plan : goal.returns-then-not-branch-clause-plan
returns-then-not-branch-clause-plan g c = λ s f absent.
    plan_absent (read_name s c.args.name.now) (read_name s c.args.entry_name.now) absent
    (sym (c.in_ok-is_there.ensures.there s f) ∙ c.if-not-branch.true)

pub returns-clause-plan : goal.returns-clause-plan
returns-clause-plan g c =
    IfOk-weaker c.plan_data.result _ _ (λ up answers s f absent.
    let mid = told_read g.D.Disk.told g.D.Disk.moment g.D.Disk.since c.args.disk.now c.is_there.new.disk c.is_there.ensures.ran in
    plan_there (read_name s c.args.name.now) (read_name s c.args.entry_name.now) absent up
    (sym (c.in_ok-is_there.ensures.there s f) ∙ c.if-not-branch.false) (answers s (mid ∙ f))) c.plan_data.ensures.plan
