use Rattle.std.proofs.Common.{◌≡◌, length, map, take}
use Rattle.live_walk.specs.Numbers.{AreHops, hop_step}
use Rattle.round_core.specs.Reaching.{step_of}
use Rattle.round_core.proofs.reach.hops_of.Given as goal

abbrev pub invariant-loop-edge : goal.invariant-loop-edge
invariant-loop-edge l =
    record {
      steps : map (hop_step l.table) l.made ≡ map step_of (take l.edge-index l.edges);
      fits : AreHops (length l.table) l.made;
    }
