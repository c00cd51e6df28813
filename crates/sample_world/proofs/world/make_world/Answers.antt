use Rattle.std.proofs.Common.{◌≡◌, ◌+◌, ◌-◌, suc, arith}
use Rattle.sample_world.proofs.Steps.{one_module_more}
use Rattle.sample_world.proofs.world.make_world.Goals as goal

pub loop-number-preserved : goal.loop-number-preserved
loop-number-preserved c =
    let left : c.args.count - c.loop-number.number ≡ suc (c.args.count - (c.loop-number.number + 1)) = omega arith in
    rw (c.in_ok-add_module.ensures.rows, c.in_ok-add_module.ensures.state)
    (one_module_more c.args.count _ _ c.loop-number.number c.loop-number.draws.state c.loop-number.world.rows _ left c.loop-number.invariant)
