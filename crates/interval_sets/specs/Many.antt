-- What many intervals have in common.
use Rattle.std.specs.Prelude.{◌≡◌, ℕ, ◌≤◌, Bool, true, false, List, fold, slice_get, Some}
use Rattle.std.specs.declared.cmp.Ordering.{Ordering}
use Rattle.interval_sets.specs.declared.interval.End.TheVariants.{Free}
use Rattle.interval_sets.specs.declared.interval.Interval.{Interval}
use Rattle.interval_sets.specs.Intervals.{between, are_apart}

abbrev pub everything : {V : Type 0} → Interval V
everything = record { lower = Free; upper = Free }

-- from the greatest lower end to the least upper end
abbrev pub common : {V : Type 0} → (V → V → Ordering) → List (Interval V) → Interval V
common order intervals = fold (between order) everything intervals

-- some two of the intervals have nothing in common; they may be one interval taken twice
pub record SomeTwoApart {V : Type 0} (order : V → V → Ordering) (intervals : List (Interval V)) : Type 0 where
  pub place : ℕ
  pub later : ℕ
  pub in_order : place ≤ later
  pub first : Interval V
  pub second : Interval V
  pub has_first : slice_get intervals place ≡ Some first
  pub has_second : slice_get intervals later ≡ Some second
  pub apart : are_apart order first second ≡ true

-- exactly one of the three
abbrev pub is_one_of : Bool → Bool → Bool → Bool
is_one_of true true c = false
is_one_of true false true = false
is_one_of true false false = true
is_one_of false true true = false
is_one_of false true false = true
is_one_of false false c = c
