use Rattle.std.proofs.Common.{◌≡◌, replicate, []}
use Rattle.live_walk.specs.Numbers.{sets_of}
use Rattle.live_walk.proofs.walk.empty_table.Given as goal

abbrev pub invariant-loop-row : goal.invariant-loop-row
invariant-loop-row l = sets_of l.made.items ≡ replicate l._row []
