use Rattle.std.proofs.Common.{◌≡◌, ◌++◌, drop}
use Rattle.round_core.specs.Reaching.{all_kept, all_kept_from}
use Rattle.round_core.proofs.reach.all_kept.Given as goal

abbrev pub invariant-loop-place : goal.invariant-loop-place
invariant-loop-place l = l.made ++ all_kept_from l.flags l.place (drop l.place l.edges)
    ≡ l.fn.roots ++ all_kept l.edges l.flags
