use Rattle.std.proofs.Common.{◌≡◌, drop}
use Rattle.res_base.specs.World.{at}
use Rattle.res_base.proofs.world.World.at.Given as goal

abbrev pub invariant-loop-row : goal.invariant-loop-row
invariant-loop-row l = at (drop l.row-index l.row-items) l.url ≡ at l.row-items l.url
