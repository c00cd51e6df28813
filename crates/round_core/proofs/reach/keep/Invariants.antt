use Rattle.std.proofs.Common.{◌≡◌, ◌++◌, drop}
use Rattle.round_core.specs.Reaching.{kept, kept_from}
use Rattle.round_core.proofs.reach.keep.Given as goal

abbrev pub invariant-loop-place : goal.invariant-loop-place
invariant-loop-place l = l.made ++ kept_from l.flags l.place (drop l.place l.edges) ≡ l.fn.made ++ kept l.edges l.flags
