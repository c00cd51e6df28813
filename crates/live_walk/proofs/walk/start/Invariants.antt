use Rattle.std.proofs.Common.{◌≡◌, drop, length, map}
use Rattle.exclusion_sets.specs.Exclusions.{is_within}
use Rattle.live_walk.specs.Numbers.{AreWork, bare_graph, root_step, state_of}
use Rattle.live_walk.specs.Walks.{after_roots}
use Rattle.live_walk.proofs.walk.start.Given as goal

abbrev pub invariant-loop-to : goal.invariant-loop-to
invariant-loop-to l =
    record {
      size : length l.table ≡ length l.fn.table;
      work : AreWork (length l.table) l.next;
      after :
          after_roots bare_graph is_within (state_of l.modules l.table l.next)
          (map (root_step l.modules l.excluded) (drop l.to-index l.roots))
          ≡ after_roots bare_graph is_within (state_of l.modules l.fn.table l.fn.next)
          (map (root_step l.modules l.excluded) l.roots);
    }
