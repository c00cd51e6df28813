use Rattle.std.proofs.Common.{◌≡◌, take}
use Rattle.live_walk.specs.Numbers.{lets_of, sets_of}
use Rattle.live_walk.proofs.walk.all_flags.Given as goal

abbrev pub invariant-loop-place : goal.invariant-loop-place
invariant-loop-place l = l.made ≡ lets_of l.modules (take l.place l.out) (take l.place (sets_of l.table))
