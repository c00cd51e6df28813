-- The greatest of many versions.
use Rattle.std.specs.Prelude.{◌≡◌, ℕ, false, Option, Some, None, List, map, filter, fold, if◌then◌else◌, Contains}
use Rattle.std.specs.Ordering.{is_lt}
use Rattle.interval_sets.specs.declared.interval.Interval.{Interval}
use Rattle.interval_sets.specs.Intervals.{holds}
use Rattle.version_order.specs.Ranks.{items_cmp, full_cmp}
use Rattle.reconcile_rules.specs.declared.request.PlainRequest.{PlainRequest}

abbrev pub greater_of : Option (List ℕ) → List ℕ → Option (List ℕ)
greater_of None version = Some version
greater_of (Some best) version = Some (if is_lt (full_cmp best version) then version else best)

-- by the full order
abbrev pub greatest : List (List ℕ) → Option (List ℕ)
greatest versions = fold greater_of None versions

abbrev pub versions_of : List PlainRequest → List (List ℕ)
versions_of asked = map (λ r. r.version) asked

-- those that an interval holds
abbrev pub versions_within : Interval (List ℕ) → List PlainRequest → List (List ℕ)
versions_within interval asked = filter (λ version. holds items_cmp interval version) (versions_of asked)

-- one of the versions, and none of them is greater by the full order
pub record IsGreatest (versions : List (List ℕ)) (version : List ℕ) : Type 0 where
  pub member : Contains versions version
  pub none_greater : (other : List ℕ) → Contains versions other → is_lt (full_cmp version other) ≡ false
