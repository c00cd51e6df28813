use Rattle.std.proofs.Common.{◌≡◌, length, map, take}
use Rattle.std.specs.Prelude.{All}
use Rattle.live_walk.specs.Numbers.{AreHops, hop_step}
use Rattle.round_core.specs.Reaching.{step_of}
use Rattle.round_core.proofs.reach.out_of.Given as goal

abbrev pub invariant-loop-list : goal.invariant-loop-list
invariant-loop-list l =
    record {
      steps : map (map (hop_step l.table)) l.made ≡ map (map step_of) (take l.list-index l.edges);
      fits : All (λ hops. AreHops (length l.table) hops) l.made;
    }
