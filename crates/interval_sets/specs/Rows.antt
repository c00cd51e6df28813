-- Worked rows, over numbers.
use Rattle.std.specs.Prelude.{◌≡◌, ℕ, true, false, Some, None, [], ◌∷◌, refl}
use Rattle.std.specs.Ordering.{nat_cmp}
use Rattle.std.specs.declared.cmp.Ordering.TheVariants.{Less, Greater}
use Rattle.interval_sets.specs.declared.interval.End.{End}
use Rattle.interval_sets.specs.declared.interval.End.TheVariants.{Free, With, Without}
use Rattle.interval_sets.specs.declared.interval.Interval.{Interval}
use Rattle.interval_sets.specs.Intervals.{ends_cmp, is_empty, is_above, is_below, holds, meet_of}
use Rattle.interval_sets.specs.Many.{common}

abbrev interval : End ℕ → End ℕ → Interval ℕ
interval lower upper = record { lower = lower; upper = upper }

pub round_end_is_outside : holds nat_cmp (interval (With 1) (Without 2)) 2 ≡ false
round_end_is_outside = refl

pub square_end_is_inside : holds nat_cmp (interval (Without 1) (With 2)) 2 ≡ true
square_end_is_inside = refl

pub backwards_is_empty : is_empty nat_cmp (interval (With 2) (With 1)) ≡ true
backwards_is_empty = refl

pub one_value : is_empty nat_cmp (interval (With 1) (With 1)) ≡ false
one_value = refl

pub one_value_left_out : is_empty nat_cmp (interval (With 1) (Without 1)) ≡ true
one_value_left_out = refl

-- the order cannot tell that no number lies between
pub neighbours : is_empty nat_cmp (interval (Without 1) (Without 2)) ≡ false
neighbours = refl

pub included_end_first : ends_cmp nat_cmp (interval (With 1) Free) (interval (Without 1) (With 0)) ≡ Less
included_end_first = refl

pub free_end_last : ends_cmp nat_cmp (interval Free Free) (interval Free (With 9)) ≡ Greater
free_end_last = refl

pub touching : meet_of nat_cmp (interval (With 1) (With 2)) (interval (With 2) (Without 3))
    ≡ Some (interval (With 2) (With 2))
touching = refl

pub apart : meet_of nat_cmp (interval (With 1) (Without 2)) (interval (With 2) (Without 3)) ≡ None
apart = refl

pub of_three : common nat_cmp (interval (With 1) Free ∷ interval Free (Without 5) ∷ interval (Without 2)
    (With 7) ∷ []) ≡ interval (Without 2) (Without 5)
of_three = refl

pub below_and_above : is_below nat_cmp (interval (With 2) (With 1)) 1 ≡ is_above nat_cmp (interval (With 2) (With 1)) 2
below_and_above = refl
