-- Ends and intervals under an order of their values.
use Rattle.std.specs.Prelude.{Bool, false, not, ◌||◌, if◌then◌else◌, Option, Some, None}
use Rattle.std.specs.declared.cmp.Ordering.{Ordering}
use Rattle.std.specs.declared.cmp.Ordering.TheVariants.{Less, Equal, Greater}
use Rattle.std.specs.Ordering.{is_lt, is_gt, ordering_then}
use Rattle.interval_sets.specs.declared.interval.End.{End}
use Rattle.interval_sets.specs.declared.interval.End.TheVariants.{Free, With, Without}
use Rattle.interval_sets.specs.declared.interval.Interval.{Interval}

module _ {V : Type 0} (order : V → V → Ordering) where
  -- lower ends: the free end first, then by value, an included end before an excluded one
  abbrev pub lower_cmp : End V → End V → Ordering
  lower_cmp Free Free = Equal
  lower_cmp Free (With b) = Less
  lower_cmp Free (Without b) = Less
  lower_cmp (With a) Free = Greater
  lower_cmp (With a) (With b) = order a b
  lower_cmp (With a) (Without b) = ordering_then (order a b) Less
  lower_cmp (Without a) Free = Greater
  lower_cmp (Without a) (With b) = ordering_then (order a b) Greater
  lower_cmp (Without a) (Without b) = order a b

  -- upper ends: by value, an excluded end before an included one, the free end last
  abbrev pub upper_cmp : End V → End V → Ordering
  upper_cmp Free Free = Equal
  upper_cmp Free (With b) = Greater
  upper_cmp Free (Without b) = Greater
  upper_cmp (With a) Free = Less
  upper_cmp (With a) (With b) = order a b
  upper_cmp (With a) (Without b) = ordering_then (order a b) Greater
  upper_cmp (Without a) Free = Less
  upper_cmp (Without a) (With b) = ordering_then (order a b) Less
  upper_cmp (Without a) (Without b) = order a b

  abbrev pub ends_cmp : Interval V → Interval V → Ordering
  ends_cmp i j = ordering_then (lower_cmp i.lower j.lower) (upper_cmp i.upper j.upper)

  -- the ends cross, or are equal and not both included
  abbrev pub leaves_nothing : End V → End V → Bool
  leaves_nothing Free upper = false
  leaves_nothing (With a) Free = false
  leaves_nothing (With a) (With b) = is_gt (order a b)
  leaves_nothing (With a) (Without b) = not (is_lt (order a b))
  leaves_nothing (Without a) Free = false
  leaves_nothing (Without a) (With b) = not (is_lt (order a b))
  leaves_nothing (Without a) (Without b) = not (is_lt (order a b))

  abbrev pub is_empty : Interval V → Bool
  is_empty i = leaves_nothing i.lower i.upper

  -- on the outer side of a lower end
  abbrev pub is_before : End V → V → Bool
  is_before Free v = false
  is_before (With a) v = is_lt (order v a)
  is_before (Without a) v = not (is_gt (order v a))

  -- on the outer side of an upper end
  abbrev pub is_after : End V → V → Bool
  is_after Free v = false
  is_after (With b) v = is_gt (order v b)
  is_after (Without b) v = not (is_lt (order v b))

  abbrev pub is_below : Interval V → V → Bool
  is_below i v = is_before i.lower v

  abbrev pub is_above : Interval V → V → Bool
  is_above i v = is_after i.upper v

  -- on the inner side of both ends
  abbrev pub holds : Interval V → V → Bool
  holds i v = not (is_below i v || is_above i v)

  abbrev pub greater_lower : End V → End V → End V
  greater_lower a b = if is_lt (lower_cmp a b) then b else a

  abbrev pub lesser_upper : End V → End V → End V
  lesser_upper a b = if is_gt (upper_cmp a b) then b else a

  -- what two intervals leave between their ends, also where that is nothing
  abbrev pub between : Interval V → Interval V → Interval V
  between i j = record { lower = greater_lower i.lower j.lower; upper = lesser_upper i.upper j.upper }

  abbrev pub meet_of : Interval V → Interval V → Option (Interval V)
  meet_of i j = if is_empty (between i j) then None else Some (between i j)

  abbrev pub are_apart : Interval V → Interval V → Bool
  are_apart i j = is_empty (between i j)

  -- a meet that is not there holds nothing
  abbrev pub met_holds : Option (Interval V) → V → Bool
  met_holds None v = false
  met_holds (Some i) v = holds i v
