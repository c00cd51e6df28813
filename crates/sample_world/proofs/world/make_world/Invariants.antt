use Rattle.std.proofs.Common.{◌≡◌, ◌++◌, ◌-◌}
use Rattle.sample_world.specs.World.{rows_from, sample_rows}
use Rattle.sample_world.proofs.world.make_world.Given as goal

abbrev pub invariant-loop-number : goal.invariant-loop-number
invariant-loop-number l = l.world.rows ++ rows_from l.count (l.count - l.number) l.number l.draws.state ≡ sample_rows l.fn.seed l.count
