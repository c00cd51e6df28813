-- The least pair of requests whose intervals have nothing in common, by the numbers of the requests.
use Rattle.std.specs.Prelude.{◌≡◌, ℕ, ◌≤◌, ◌<◌, true, ◌⊎◌, Option, Some, List, slice_get}
use Rattle.interval_sets.specs.declared.interval.Interval.{Interval}
use Rattle.interval_sets.specs.Intervals.{are_apart}
use Rattle.version_order.specs.declared.constraint.Constraint.{Constraint}
use Rattle.version_order.specs.declared.constraint.Constraint.TheVariants.{Within}
use Rattle.version_order.specs.Ranks.{items_cmp}

-- the request with this number asks for a version in this interval
abbrev pub AsksWithin : List (Option Constraint) → ℕ → Interval (List ℕ) → Type 0
AsksWithin read number interval = slice_get read number ≡ Some (Some (Within interval))

-- Two requests, or one taken twice, whose intervals have nothing in common. Each other such pair has a greater first
-- number, or the same and no lesser second one.
pub record IsLeastPair (read : List (Option Constraint)) (first second : ℕ) : Type 0 where
  pub one : Interval (List ℕ)
  pub other : Interval (List ℕ)
  pub asks_one : AsksWithin read first one
  pub asks_other : AsksWithin read second other
  pub in_order : first ≤ second
  pub apart : are_apart items_cmp one other ≡ true
  pub least : (i j : ℕ) (a b : Interval (List ℕ)) → AsksWithin read i a → AsksWithin read j b → i ≤ j
      → are_apart items_cmp a b ≡ true
      → (first < i) ⊎ ((first ≡ i) × (second ≤ j))
