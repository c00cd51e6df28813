use Rattle.std.proofs.Common.{◌≡◌, ◌++◌, ◌-◌, [], length, replicate}
use Rattle.round_core.proofs.reach.padded.Given as goal

abbrev pub invariant-loop-row : goal.invariant-loop-row
invariant-loop-row l = l.made ≡ l.fn.out ++ replicate (l._row - length l.fn.out) []
