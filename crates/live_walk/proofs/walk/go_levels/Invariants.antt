use Rattle.std.proofs.Common.{◌≡◌, ◌-◌, length}
use Rattle.exclusion_sets.specs.Exclusions.{is_within}
use Rattle.live_walk.specs.Numbers.{AreWork, out_graph, state_of}
use Rattle.live_walk.specs.Walks.{after_levels}
use Rattle.live_walk.proofs.walk.go_levels.Given as goal

abbrev pub invariant-loop-level : goal.invariant-loop-level
invariant-loop-level l =
    record {
      size : length l.table ≡ length l.fn.table;
      work : AreWork (length l.table) l.work;
      after :
          after_levels (out_graph l.modules l.out) is_within (length l.modules - l._level)
          (state_of l.modules l.table l.work)
          ≡ after_levels (out_graph l.modules l.out) is_within (length l.modules)
          (state_of l.modules l.fn.table l.fn.first);
    }
