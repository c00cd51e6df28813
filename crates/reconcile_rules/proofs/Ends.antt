-- Ends that are further in leave no more between them.
use Rattle.std.proofs.Common.{◌≡◌, Bool, true, false, not, ◌||◌, if◌then◌else◌, ◌⊎◌, inl, inr, refl, sym, ◌∙◌, ap, List, [], ◌∷◌}
use Rattle.std.specs.Prelude.{fold}
use Rattle.std.specs.declared.cmp.Ordering.{Ordering}
use Rattle.std.specs.declared.cmp.Ordering.TheVariants.{Less, Equal, Greater}
use Rattle.std.specs.Ordering.{is_lt, is_gt, ordering_then, ordering_reverse}
use Rattle.std.specs.Cmp.{IsTotalOrder, upto, tied_itself}
use Rattle.std.proofs.lemmas.Bool.{cases_Bool, false≢true, not-true}
use Rattle.interval_sets.specs.declared.interval.End.{End}
use Rattle.interval_sets.specs.declared.interval.End.TheVariants.{Free, With, Without}
use Rattle.interval_sets.specs.declared.interval.Interval.{Interval}
use Rattle.interval_sets.specs.Intervals.{lower_cmp, upper_cmp, leaves_nothing, is_empty, greater_lower, lesser_upper, between, are_apart}

lt_turned : (p q : Ordering) → p ≡ ordering_reverse q → is_lt p ≡ is_gt q
lt_turned p Less e = ap is_lt e
lt_turned p Equal e = ap is_lt e
lt_turned p Greater e = ap is_lt e

then_less : (p : Ordering) → is_gt (ordering_then p Less) ≡ false → is_gt p ≡ false
then_less Less e = refl
then_less Equal e = refl
then_less Greater e = e

then_greater : (p : Ordering) → is_gt (ordering_then p Greater) ≡ false → is_lt p ≡ true
then_greater Less e = refl
then_greater Equal e = sym e
then_greater Greater e = sym e

lt_not_gt : (p : Ordering) → is_lt p ≡ true → is_gt p ≡ false
lt_not_gt Less e = refl
lt_not_gt Equal e = refl
lt_not_gt Greater e = sym e

gt_not_lt : (p : Ordering) → is_gt p ≡ true → is_lt p ≡ false
gt_not_lt Less e = sym e
gt_not_lt Equal e = refl
gt_not_lt Greater e = refl

lt_then : (p q : Ordering) → p ≡ ordering_reverse q → is_lt (ordering_then p Less) ≡ is_gt (ordering_then q Greater)
lt_then p Less e = ap (λ x. is_lt (ordering_then x Less)) e
lt_then p Equal e = ap (λ x. is_lt (ordering_then x Less)) e
lt_then p Greater e = ap (λ x. is_lt (ordering_then x Less)) e

lt_then' : (p q : Ordering) → p ≡ ordering_reverse q → is_lt (ordering_then p Greater) ≡ is_gt (ordering_then q Less)
lt_then' p Less e = ap (λ x. is_lt (ordering_then x Greater)) e
lt_then' p Equal e = ap (λ x. is_lt (ordering_then x Greater)) e
lt_then' p Greater e = ap (λ x. is_lt (ordering_then x Greater)) e

module _ {V : Type 0} {order : V → V → Ordering} (o : IsTotalOrder order) where
  turned : (a b : V) → is_lt (order a b) ≡ is_gt (order b a)
  turned a b = lt_turned (order a b) (order b a) (o.antisymm a b)

  -- what is not greater than the other, in the forms that ends take
  not_less : (a b : V) → not (is_lt (order a b)) ≡ true → is_gt (order b a) ≡ false
  not_less a b e = not-true (is_gt (order b a)) (ap not (sym (turned a b)) ∙ e)

  still_not_less : (a b : V) → is_gt (order b a) ≡ false → not (is_lt (order a b)) ≡ true
  still_not_less a b e = ap not (turned a b ∙ e)

  gt_le : (a b : V) → is_gt (order a b) ≡ true → is_gt (order b a) ≡ false
  gt_le a b e = lt_not_gt (order b a) (turned b a ∙ e)

  greater : (a b : V) → (is_gt (order a b) ≡ false → ⊥) → is_gt (order a b) ≡ true
  greater a b f = elim (cases_Bool (is_gt (order a b))) [ inl so ↦ so | inr isnt ↦ absurd (f isnt) ]

  clash : {p : Bool} → p ≡ true → p ≡ false → ⊥
  clash e f = false≢true (sym f ∙ e)

  pub further_lower : (a b u : End V) → is_gt (lower_cmp order a b) ≡ false → leaves_nothing order a u ≡ true
      → leaves_nothing order b u ≡ true
  further_lower Free b u h n = absurd (false≢true n)
  further_lower (With x) b Free h n = absurd (false≢true n)
  further_lower (Without x) b Free h n = absurd (false≢true n)
  further_lower (With x) Free (With z) h n = absurd (false≢true (sym h))
  further_lower (With x) Free (Without z) h n = absurd (false≢true (sym h))
  further_lower (Without x) Free (With z) h n = absurd (false≢true (sym h))
  further_lower (Without x) Free (Without z) h n = absurd (false≢true (sym h))
  further_lower (With x) (With y) (With z) h n = greater y z (λ f. clash n (upto o x y z h f))
  further_lower (With x) (With y) (Without z) h n = still_not_less y z (upto o z x y (not_less x z n) h)
  further_lower (With x) (Without y) (With z) h n =
      still_not_less y z (upto o z x y (gt_le x z n) (then_less (order x y) h))
  further_lower (With x) (Without y) (Without z) h n =
      still_not_less y z (upto o z x y (not_less x z n) (then_less (order x y) h))
  further_lower (Without x) (With y) (With z) h n =
      greater y z (λ f. clash (sym (turned x y) ∙ then_greater (order x y) h) (upto o y z x f (not_less x z n)))
  further_lower (Without x) (With y) (Without z) h n =
      still_not_less y z (upto o z x y (not_less x z n) (lt_not_gt (order x y) (then_greater (order x y) h)))
  further_lower (Without x) (Without y) (With z) h n = still_not_less y z (upto o z x y (not_less x z n) h)
  further_lower (Without x) (Without y) (Without z) h n = still_not_less y z (upto o z x y (not_less x z n) h)

  pub further_upper : (l u v : End V) → is_gt (upper_cmp order v u) ≡ false → leaves_nothing order l u ≡ true
      → leaves_nothing order l v ≡ true
  further_upper Free u v h n = absurd (false≢true n)
  further_upper (With x) Free v h n = absurd (false≢true n)
  further_upper (Without x) Free v h n = absurd (false≢true n)
  further_upper (With x) (With z) Free h n = absurd (false≢true (sym h))
  further_upper (With x) (Without z) Free h n = absurd (false≢true (sym h))
  further_upper (Without x) (With z) Free h n = absurd (false≢true (sym h))
  further_upper (Without x) (Without z) Free h n = absurd (false≢true (sym h))
  further_upper (With x) (With z) (With y) h n = greater x y (λ f. clash n (upto o x y z f h))
  further_upper (With x) (With z) (Without y) h n =
      still_not_less x y (upto o y z x (then_less (order y z) h) (gt_le x z n))
  further_upper (With x) (Without z) (With y) h n =
      greater x y (λ f. clash (sym (turned y z) ∙ then_greater (order y z) h) (upto o z x y (not_less x z n) f))
  further_upper (With x) (Without z) (Without y) h n = still_not_less x y (upto o y z x h (not_less x z n))
  further_upper (Without x) (With z) (With y) h n = still_not_less x y (upto o y z x h (not_less x z n))
  further_upper (Without x) (With z) (Without y) h n =
      still_not_less x y (upto o y z x (then_less (order y z) h) (not_less x z n))
  further_upper (Without x) (Without z) (With y) h n =
      still_not_less x y (upto o y z x (lt_not_gt (order y z) (then_greater (order y z) h)) (not_less x z n))
  further_upper (Without x) (Without z) (Without y) h n = still_not_less x y (upto o y z x h (not_less x z n))

  pub lower_turned : (a b : End V) → is_lt (lower_cmp order a b) ≡ is_gt (lower_cmp order b a)
  lower_turned Free Free = refl
  lower_turned Free (With b) = refl
  lower_turned Free (Without b) = refl
  lower_turned (With a) Free = refl
  lower_turned (With a) (With b) = turned a b
  lower_turned (With a) (Without b) = lt_then (order a b) (order b a) (o.antisymm a b)
  lower_turned (Without a) Free = refl
  lower_turned (Without a) (With b) = lt_then' (order a b) (order b a) (o.antisymm a b)
  lower_turned (Without a) (Without b) = turned a b

  upper_turned : (a b : End V) → is_lt (upper_cmp order a b) ≡ is_gt (upper_cmp order b a)
  upper_turned Free Free = refl
  upper_turned Free (With b) = refl
  upper_turned Free (Without b) = refl
  upper_turned (With a) Free = refl
  upper_turned (With a) (With b) = turned a b
  upper_turned (With a) (Without b) = lt_then' (order a b) (order b a) (o.antisymm a b)
  upper_turned (Without a) Free = refl
  upper_turned (Without a) (With b) = lt_then (order a b) (order b a) (o.antisymm a b)
  upper_turned (Without a) (Without b) = turned a b

  lower_itself : (a : End V) → is_gt (lower_cmp order a a) ≡ false
  lower_itself Free = refl
  lower_itself (With a) = ap is_gt (tied_itself o a)
  lower_itself (Without a) = ap is_gt (tied_itself o a)

  upper_itself : (a : End V) → is_gt (upper_cmp order a a) ≡ false
  upper_itself Free = refl
  upper_itself (With a) = ap is_gt (tied_itself o a)
  upper_itself (Without a) = ap is_gt (tied_itself o a)

  left_lower : (a b : End V) → is_gt (lower_cmp order a (greater_lower order a b)) ≡ false
  left_lower a b = by (is_lt (lower_cmp order a b)) refl
    where
      by : (t : Bool) → is_lt (lower_cmp order a b) ≡ t → is_gt (lower_cmp order a (if t then b else a)) ≡ false
      by true e = lt_not_gt (lower_cmp order a b) e
      by false e = lower_itself a

  right_lower : (a b : End V) → is_gt (lower_cmp order b (greater_lower order a b)) ≡ false
  right_lower a b = by (is_lt (lower_cmp order a b)) refl
    where
      by : (t : Bool) → is_lt (lower_cmp order a b) ≡ t → is_gt (lower_cmp order b (if t then b else a)) ≡ false
      by true e = lower_itself b
      by false e = sym (lower_turned a b) ∙ e

  left_upper : (a b : End V) → is_gt (upper_cmp order (lesser_upper order a b) a) ≡ false
  left_upper a b = by (is_gt (upper_cmp order a b)) refl
    where
      by : (t : Bool) → is_gt (upper_cmp order a b) ≡ t → is_gt (upper_cmp order (if t then b else a) a) ≡ false
      by true e = sym (upper_turned a b) ∙ gt_not_lt (upper_cmp order a b) e
      by false e = upper_itself a

  right_upper : (a b : End V) → is_gt (upper_cmp order (lesser_upper order a b) b) ≡ false
  right_upper a b = by (is_gt (upper_cmp order a b)) refl
    where
      by : (t : Bool) → is_gt (upper_cmp order a b) ≡ t → is_gt (upper_cmp order (if t then b else a) b) ≡ false
      by true e = upper_itself b
      by false e = e

  -- an interval that holds nothing has nothing in common with any
  empty_between : (i j : Interval V) → is_empty order i ≡ true → is_empty order (between order i j) ≡ true
  empty_between i j n =
      further_upper (greater_lower order i.lower j.lower) i.upper (lesser_upper order i.upper j.upper)
      (left_upper i.upper j.upper)
      (further_lower i.lower (greater_lower order i.lower j.lower) i.upper (left_lower i.lower j.lower) n)

  pub empty_fold : (i : Interval V) (xs : List (Interval V)) → is_empty order i ≡ true
      → is_empty order (fold (between order) i xs) ≡ true
  empty_fold i [] n = n
  empty_fold i (x ∷ xs) n = empty_fold (between order i x) xs (empty_between i x n)

  -- two intervals where an end of the one leaves nothing to an end of the other
  crossed : (p q : Interval V) (low : End V) → is_gt (lower_cmp order low q.lower) ≡ false
      → leaves_nothing order low p.upper ≡ true → are_apart order p q ≡ true
  crossed p q low h n =
      further_upper (greater_lower order p.lower q.lower) p.upper (lesser_upper order p.upper q.upper)
      (left_upper p.upper q.upper)
      (further_lower q.lower (greater_lower order p.lower q.lower) p.upper (right_lower p.lower q.lower) (further_lower low q.lower p.upper h n))

  -- of two that have nothing in common, one has nothing in common with a third that does not begin before them
  pub apart_from_last : (p q l : Interval V) → is_gt (lower_cmp order p.lower l.lower) ≡ false
      → is_gt (lower_cmp order q.lower l.lower) ≡ false → are_apart order p q ≡ true
      → (are_apart order p l ≡ true) ⊎ (are_apart order q l ≡ true)
  apart_from_last p q l hp hq n =
      upper (is_gt (upper_cmp order p.upper q.upper)) (lower (is_lt (lower_cmp order p.lower q.lower)) n)
    where
      lower : (t : Bool)
          → leaves_nothing order (if t then q.lower else p.lower) (lesser_upper order p.upper q.upper) ≡ true
          → leaves_nothing order l.lower (lesser_upper order p.upper q.upper) ≡ true
      lower true e = further_lower q.lower l.lower (lesser_upper order p.upper q.upper) hq e
      lower false e = further_lower p.lower l.lower (lesser_upper order p.upper q.upper) hp e

      upper : (t : Bool) → leaves_nothing order l.lower (if t then q.upper else p.upper) ≡ true
          → (are_apart order p l ≡ true) ⊎ (are_apart order q l ≡ true)
      upper true e = inr (crossed q l l.lower (lower_itself l.lower) e)
      upper false e = inl (crossed p l l.lower (lower_itself l.lower) e)

  pub apart_turned : (p q : Interval V) → are_apart order p q ≡ true → are_apart order q p ≡ true
  apart_turned p q n =
      upper (is_gt (upper_cmp order p.upper q.upper)) (lower (is_lt (lower_cmp order p.lower q.lower)) n)
    where
      low : End V
      low = greater_lower order q.lower p.lower

      lower : (t : Bool)
          → leaves_nothing order (if t then q.lower else p.lower) (lesser_upper order p.upper q.upper) ≡ true
          → leaves_nothing order low (lesser_upper order p.upper q.upper) ≡ true
      lower true e = further_lower q.lower low (lesser_upper order p.upper q.upper) (left_lower q.lower p.lower) e
      lower false e = further_lower p.lower low (lesser_upper order p.upper q.upper) (right_lower q.lower p.lower) e

      upper : (t : Bool) → leaves_nothing order low (if t then q.upper else p.upper) ≡ true → are_apart order q p ≡ true
      upper true e = further_upper low q.upper (lesser_upper order q.upper p.upper) (left_upper q.upper p.upper) e
      upper false e = further_upper low p.upper (lesser_upper order q.upper p.upper) (right_upper q.upper p.upper) e

  narrower : (p q : Bool) → (p ≡ true → q ≡ true) → q ≡ (p || q)
  narrower true q h = h refl
  narrower false q h = refl

  wider : (p q : Bool) → (q ≡ true → p ≡ true) → p ≡ (p || q)
  wider true q h = refl
  wider false true h = h refl
  wider false false h = refl

  -- the greater of two lower ends leaves nothing where one of them does, and so the lesser of two upper ends
  pub either_lower : (a b u : End V)
      → leaves_nothing order (greater_lower order a b) u ≡ (leaves_nothing order a u || leaves_nothing order b u)
  either_lower a b u = by (is_lt (lower_cmp order a b)) refl
    where
      by : (t : Bool) → is_lt (lower_cmp order a b) ≡ t
          → leaves_nothing order (if t then b else a) u ≡ (leaves_nothing order a u || leaves_nothing order b u)
      by true e =
          narrower (leaves_nothing order a u) (leaves_nothing order b u)
          (further_lower a b u (lt_not_gt (lower_cmp order a b) e))
      by false e =
          wider (leaves_nothing order a u) (leaves_nothing order b u) (further_lower b a u (sym (lower_turned a b) ∙ e))

  pub either_upper : (l a b : End V)
      → leaves_nothing order l (lesser_upper order a b) ≡ (leaves_nothing order l a || leaves_nothing order l b)
  either_upper l a b = by (is_gt (upper_cmp order a b)) refl
    where
      by : (t : Bool) → is_gt (upper_cmp order a b) ≡ t
          → leaves_nothing order l (if t then b else a) ≡ (leaves_nothing order l a || leaves_nothing order l b)
      by true e =
          narrower (leaves_nothing order l a) (leaves_nothing order l b)
          (further_upper l a b (sym (upper_turned a b) ∙ gt_not_lt (upper_cmp order a b) e))
      by false e = wider (leaves_nothing order l a) (leaves_nothing order l b) (further_upper l b a e)
