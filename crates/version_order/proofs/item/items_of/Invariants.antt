use Rattle.std.proofs.Common.{◌≡◌, ◌≤◌, ◌++◌, map, drop, All, IfSome, slice_range}
use Rattle.version_order.specs.Items.{items}
use Rattle.version_order.specs.Ranks.{rank, qualifiers}
use Rattle.version_order.specs.Kept.{rank_at, IsWithin}
use Rattle.version_order.specs.Cutting.{items_from}
use Rattle.version_order.proofs.item.items_of.Given as goal

-- the items so far and those of what is left are all
abbrev pub invariant-loop-i : goal.invariant-loop-i
invariant-loop-i l =
    record {
      begun : l.start ≤ l.i;
      ranked : map (rank_at l.lowered) l.made.items ++ map rank (items_from (slice_range l.lowered l.start l.i) (drop l.i l.lowered)) ≡ map rank (items l.lowered);
      within : All (IsWithin l.lowered) l.made.items;
      table : IfSome l.table (λ rows. rows ≡ qualifiers);
    }
