use Rattle.std.proofs.Common.{◌≡◌, ◌<◌, length, map, take}
use Rattle.std.specs.Prelude.{All}
use Rattle.live_walk.specs.Numbers.{module_at}
use Rattle.round_core.specs.Reaching.{roots_of}
use Rattle.round_core.proofs.reach.root_numbers.Given as goal

abbrev pub invariant-loop-root : goal.invariant-loop-root
invariant-loop-root l =
    record {
      names : map (module_at l.table) l.made ≡ roots_of (take l.root-index l.roots);
      fits : All (λ to. to < length l.table) l.made;
    }
