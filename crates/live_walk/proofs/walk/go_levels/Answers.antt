use Rattle.std.proofs.Common.{◌≡◌, ◌-◌, [], length, rules}
use Rattle.live_walk.specs.Numbers.{out_graph}
use Rattle.live_walk.proofs.States.{idle_at}
use Rattle.live_walk.proofs.walk.go_levels.Goals as goal

pub returns-then-is_empty-clause-after : goal.returns-then-is_empty-clause-after
returns-then-is_empty-clause-after c =
    let none : c.loop-level.work ≡ [] = search rules in
    idle_at (out_graph c.args.modules.now c.args.out.now)
    (length c.args.modules.now - c.loop-level._level) c.args.modules.now c.loop-level.table c.loop-level.work _ none
    c.loop-level.invariant.after
