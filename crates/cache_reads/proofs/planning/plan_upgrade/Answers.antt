use Rattle.std.proofs.Common.{◌∙◌}
use Rattle.std.proofs.lemmas.Result.{IfOk-weaker}
use Rattle.disk_base.specs.Names.{read_name}
use Rattle.cache_images.specs.Places.{gone_name}
use Rattle.cache_reads.proofs.Plans.{plan_named}
use Rattle.cache_reads.proofs.planning.plan_upgrade.Goals as goal

pub returns-clause-plan : goal.returns-clause-plan
returns-clause-plan g c = λ s f.
    IfOk-weaker c.plan_by.result _ _ (λ up answers.
    plan_named s c.args.name.now c.as_str.result.now up (c.as_str.ensures ∙ c.in_ok-entry_name.ensures)
    (answers s f (read_name s (gone_name c.args.name.now)))) c.plan_by.ensures.plan
