-- The items that a version keeps: each a class and a part of the version's text in small letters.
use Rattle.std.specs.Prelude.{◌≡◌, ℕ, ◌-◌, ◌≤◌, List, length, map, All, ◌++◌, drop, ◌==◌, if◌then◌else◌, slice_range}
use Rattle.std.specs.Str.{str_to_ascii_lowercase}
use Rattle.version_order.specs.RankValue.{RankValue}
use Rattle.version_order.specs.Cutting.{items_from}
use Rattle.version_order.specs.Ranks.{rank, ranks, number_class}
use Rattle.version_order.specs.declared.item.Item.{Item}

abbrev pub rank_at : List ℕ → Item → RankValue
rank_at lowered item = record {
  class = item.class;
  size = if item.class == number_class then item.end - item.start else 0;
  bytes = slice_range lowered item.start item.end;
}

pub record IsWithin (lowered : List ℕ) (item : Item) : Type 0 where
  pub rises : item.start ≤ item.end
  pub ends : item.end ≤ length lowered

-- the kept items have the ranks of the text
pub record IsKept (text lowered : List ℕ) (kept : List Item) : Type 0 where
  pub small : lowered ≡ str_to_ascii_lowercase text
  pub ranked : map (rank_at lowered) kept ≡ ranks text
  pub within : All (IsWithin lowered) kept

-- the ranks of the items so far, and of those of what is left, where the item at hand began at `start`
abbrev pub ranks_with : List ℕ → List Item → ℕ → ℕ → List RankValue
ranks_with lowered made start i =
    map (rank_at lowered) made ++ map rank (items_from (slice_range lowered start i) (drop i lowered))
