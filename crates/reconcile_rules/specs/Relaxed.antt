-- The intervals that the rule Relaxed keeps.
use Rattle.std.specs.Prelude.{◌≡◌, ℕ, Bool, true, false, not, Option, Some, None, List, filter, fold, if◌then◌else◌, Contains}
use Rattle.std.specs.declared.cmp.Ordering.{Ordering}
use Rattle.std.specs.Ordering.{is_lt, nat_cmp, ordering_then}
use Rattle.interval_sets.specs.declared.interval.Interval.{Interval}
use Rattle.interval_sets.specs.Intervals.{ends_cmp, is_empty, are_apart}
use Rattle.version_order.specs.Ranks.{items_cmp}
use Rattle.reconcile_rules.specs.declared.request.IntervalRequest.{IntervalRequest}
use Rattle.reconcile_rules.specs.Apart.{common_of}

-- the order in which intervals are dropped: by lower end, then upper end, then the number of the request
abbrev pub drop_cmp : IntervalRequest → IntervalRequest → Ordering
drop_cmp a b = ordering_then (ends_cmp items_cmp a.interval b.interval) (nat_cmp a.number b.number)

abbrev pub is_before : IntervalRequest → IntervalRequest → Bool
is_before a b = is_lt (drop_cmp a b)

-- this one and those after it in that order
abbrev pub from_on : IntervalRequest → List IntervalRequest → List IntervalRequest
from_on r asked = filter (λ other. not (is_before other r)) asked

-- Intervals are dropped, the first in that order first, until the rest have a version in common: one is kept where it
-- and those after it have.
abbrev pub is_kept : List IntervalRequest → IntervalRequest → Bool
is_kept asked r = not (is_empty items_cmp (common_of (from_on r asked)))

abbrev pub kept : List IntervalRequest → List IntervalRequest
kept asked = filter (is_kept asked) asked

abbrev pub later_of : Option IntervalRequest → IntervalRequest → Option IntervalRequest
later_of None r = Some r
later_of (Some last) r = Some (if is_before last r then r else last)

-- the last in that order
abbrev pub last_of : List IntervalRequest → Option IntervalRequest
last_of asked = fold later_of None asked

-- those that have nothing in common with an interval
abbrev pub apart_from : Interval (List ℕ) → List IntervalRequest → List IntervalRequest
apart_from interval asked = filter (λ r. are_apart items_cmp r.interval interval) asked

abbrev pub is_after : Option IntervalRequest → IntervalRequest → Bool
is_after None r = true
is_after (Some dropped) r = is_before dropped r

-- The last one that is dropped, given the last of all: the last that has nothing in common with it.
abbrev pub dropped_of : Option IntervalRequest → List IntervalRequest → Option IntervalRequest
dropped_of None asked = None
dropped_of (Some last) asked = last_of (apart_from last.interval asked)

-- A rest is what is left where intervals are dropped in that order. These are the longest rest that has a version in
-- common: with one kept all after it are, they have a version in common, and from any dropped one on they have none.
pub record IsLongestRest (asked : List IntervalRequest) (keeps : IntervalRequest → Bool) : Type 0 where
  pub is_rest : (r other : IntervalRequest) → Contains asked r → Contains asked other → keeps r ≡ true
      → is_before other r ≡ false → keeps other ≡ true
  pub in_common : is_empty items_cmp (common_of (filter keeps asked)) ≡ false
  pub longest : (r : IntervalRequest) → Contains asked r → keeps r ≡ false
      → is_empty items_cmp (common_of (from_on r asked)) ≡ true
