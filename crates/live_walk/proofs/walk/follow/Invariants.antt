use Rattle.std.proofs.Common.{◌≡◌, drop, length, map}
use Rattle.exclusion_sets.specs.Exclusions.{is_within}
use Rattle.live_walk.specs.Numbers.{AreWork, bare_graph, hop_step, state_of}
use Rattle.live_walk.specs.Walks.{after_edges}
use Rattle.live_walk.proofs.walk.follow.Given as goal

abbrev pub invariant-loop-hop : goal.invariant-loop-hop
invariant-loop-hop l =
    record {
      size : length l.table ≡ length l.fn.table;
      work : AreWork (length l.table) l.next;
      after :
          after_edges bare_graph is_within l.set (state_of l.modules l.table l.next)
          (map (hop_step l.modules) (drop l.hop-index l.hops))
          ≡ after_edges bare_graph is_within l.set (state_of l.modules l.fn.table l.fn.next)
          (map (hop_step l.modules) l.hops);
    }
