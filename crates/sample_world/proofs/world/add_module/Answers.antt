use Rattle.sample_world.proofs.Steps.{three_releases}
use Rattle.sample_world.proofs.world.add_module.Goals as goal

pub returns-clause-rows : goal.returns-clause-rows
returns-clause-rows c =
    three_releases c.args.count c.args.number c.args.draws.now.state _ _ c.args.world.now.rows _ _ _
    c.in_ok-add_release.ensures.state c.in_ok-add_release-2.ensures.state
    c.in_ok-add_release.ensures.rows c.in_ok-add_release-2.ensures.rows c.in_ok-add_release-3.ensures.rows
