use Rattle.std.proofs.Common.{◌≡◌, drop, length, map}
use Rattle.exclusion_sets.specs.Exclusions.{is_within}
use Rattle.live_walk.specs.Numbers.{AreWork, item_of, out_graph, state_of}
use Rattle.live_walk.specs.Walks.{after_items}
use Rattle.live_walk.proofs.walk.follow_all.Given as goal

abbrev pub invariant-loop-item : goal.invariant-loop-item
invariant-loop-item l =
    record {
      size : length l.table ≡ length l.fn.table;
      next : AreWork (length l.table) l.next;
      after :
          after_items (out_graph l.modules l.out) is_within (state_of l.modules l.table l.next)
          (map (item_of l.modules) (drop l.item-index l.work))
          ≡ after_items (out_graph l.modules l.out) is_within (state_of l.modules l.fn.table l.fn.next)
          (map (item_of l.modules) l.work);
    }
