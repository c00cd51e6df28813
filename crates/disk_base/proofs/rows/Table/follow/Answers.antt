use Rattle.std.proofs.Common.{◌+◌, ◌∙◌, arith}
use Rattle.disk_base.proofs.Replays.{run_more}
use Rattle.disk_base.specs.Tables.{names_in}
use Rattle.disk_base.proofs.rows.Table.follow.Goals as goal

pub loop-step-preserved : goal.loop-step-preserved
loop-step-preserved c =
    run_more c.args.steps.now c.loop-step.step-index (c.loop-step.step-index + 1) c.step-item.result c.step-item.result
    (names_in c.loop-step.self) (names_in c.apply.new.self) (omega arith) c.loop-step-test.true c.step-item.is
    c.in_ok-apply.ensures
    ∙ c.loop-step.invariant
