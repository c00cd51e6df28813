-- What intervals have in common, and which of them have nothing in common.
use Rattle.std.specs.Prelude.{◌≡◌, ℕ, Bool, false, ◌||◌, IsSome, is_some, Option, Some, None, List, [], ◌∷◌, map, if◌then◌else◌}
use Rattle.std.specs.List.{find}
use Rattle.std.specs.Option.{option_map}
use Rattle.interval_sets.specs.declared.interval.Interval.{Interval}
use Rattle.interval_sets.specs.declared.interval.End.{End}
use Rattle.interval_sets.specs.declared.interval.End.TheVariants.{Free}
use Rattle.interval_sets.specs.Intervals.{are_apart, is_empty, leaves_nothing, greater_lower, lesser_upper}
use Rattle.interval_sets.specs.Many.{common}
use Rattle.version_order.specs.Ranks.{items_cmp}
use Rattle.reconcile_rules.specs.declared.request.IntervalRequest.{IntervalRequest}
use Rattle.reconcile_rules.specs.declared.request.Clash.{Clash}
use Rattle.reconcile_rules.specs.declared.request.Clash.TheVariants.{Apart}

-- from the greatest lower end to the least upper end, by items
abbrev pub common_of : List IntervalRequest → Interval (List ℕ)
common_of asked = common items_cmp (map (λ r. r.interval) asked)

abbrev pub unless_empty : Interval (List ℕ) → Option (Interval (List ℕ))
unless_empty interval = if is_empty items_cmp interval then None else Some interval

abbrev pub is_apart_from : Interval (List ℕ) → IntervalRequest → Bool
is_apart_from interval other = are_apart items_cmp interval other.interval

-- the number of the first that has nothing in common with this interval
abbrev pub first_apart : Interval (List ℕ) → List IntervalRequest → Option ℕ
first_apart interval asked = option_map (λ r. r.number) (find (is_apart_from interval) asked)

abbrev pub or_later : ℕ → Option ℕ → Option Clash → Option Clash
or_later first (Some second) later = Some (Apart first second)
or_later first None later = later

-- The least pair that has nothing in common: the first with such a partner that is not before it, and the first such
-- partner. An interval that holds nothing is its own partner.
abbrev pub least_apart : List IntervalRequest → Option Clash
least_apart [] = None
least_apart (r ∷ later) = or_later r.number (first_apart r.interval (r ∷ later)) (least_apart later)

-- the intervals from the first that has a partner on: itself or a later one that it has nothing in common with
abbrev pub from_first_apart : List IntervalRequest → List IntervalRequest
from_first_apart [] = []
from_first_apart (r ∷ later) =
    if is_some (first_apart r.interval (r ∷ later)) then r ∷ later else from_first_apart later

-- The greatest lower and the least upper end of many intervals, and whether one of them holds nothing. An interval has
-- a partner among itself and later ones exactly where it crosses one of the ends of those, or one of all holds nothing.
abbrev pub greatest_lower : List IntervalRequest → End (List ℕ)
greatest_lower [] = Free
greatest_lower (r ∷ later) = greater_lower items_cmp (greatest_lower later) r.interval.lower

abbrev pub least_upper : List IntervalRequest → End (List ℕ)
least_upper [] = Free
least_upper (r ∷ later) = lesser_upper items_cmp (least_upper later) r.interval.upper

abbrev pub has_empty : List IntervalRequest → Bool
has_empty [] = false
has_empty (r ∷ later) = is_empty items_cmp r.interval || has_empty later

-- whether an interval crosses one of two ends
abbrev pub crosses : Interval (List ℕ) → End (List ℕ) → End (List ℕ) → Bool
crosses interval lower upper =
    leaves_nothing items_cmp interval.lower upper || leaves_nothing items_cmp lower interval.upper

-- what is in common is there exactly where no two are apart
abbrev pub IsCommon : List IntervalRequest → Option (Interval (List ℕ)) → Type 0
IsCommon asked None = IsSome (least_apart asked)
IsCommon asked (Some common) = (least_apart asked ≡ None) × (common ≡ common_of asked)
