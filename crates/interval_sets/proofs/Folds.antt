-- What many intervals have in common, from what two have.
use Rattle.std.proofs.Common.{◌≡◌, ℕ, zero, suc, ◌<◌, ◌≤◌, Bool, true, false, not, ◌||◌, ◌&&◌, if◌then◌else◌, List, [], ◌∷◌, ◌++◌, ◌⊎◌, inl, inr, refl, sym, ◌∙◌, ap, subst, arith, Some}
use Rattle.std.specs.Prelude.{fold, slice_get}
use Rattle.std.specs.List.{list_any, list_all}
use Rattle.std.specs.declared.cmp.Ordering.{Ordering}
use Rattle.std.specs.declared.cmp.Ordering.TheVariants.{Less, Equal, Greater}
use Rattle.std.specs.Ordering.{is_lt, is_gt}
use Rattle.std.specs.Cmp.{IsTotalOrder, upto, tied_itself}
use Rattle.std.proofs.lemmas.Bool.{cases_lt, false≢true, not-true}
use Rattle.std.proofs.lemmas.List.Sums.{fold-append}
use Rattle.interval_sets.specs.declared.interval.End.{End}
use Rattle.interval_sets.specs.declared.interval.End.TheVariants.{Free, With, Without}
use Rattle.interval_sets.specs.declared.interval.Interval.{Interval}
use Rattle.interval_sets.specs.Intervals.{lower_cmp, upper_cmp, leaves_nothing, is_empty, is_below, is_above, holds, greater_lower, lesser_upper, between}
use Rattle.interval_sets.specs.Many.{everything, common, SomeTwoApart}
use Rattle.interval_sets.proofs.Cuts.{Cut, before, after, lower_cut, upper_cut, cut_cmp, cut_total, nothing_is, before_is, after_is, greater_cut, lesser_cut, lt_turned}

-- tests

or_second : (p q : Bool) → (q ≡ false → p ≡ false) → q ≡ (p || q)
or_second true true f = refl
or_second true false f = sym (f refl)
or_second false q f = refl

or_first : (p q : Bool) → (p ≡ false → q ≡ false) → p ≡ (p || q)
or_first true q f = refl
or_first false true f = sym (f refl)
or_first false false f = refl

or_nothing : (p : Bool) → p ≡ (p || false)
or_nothing true = refl
or_nothing false = refl

or_apart : (p q r : Bool) → ((p || q) || r) ≡ (p || (q || r))
or_apart true q r = refl
or_apart false q r = refl

none_of_both : (p q r s : Bool) → not ((p || q) || (r || s)) ≡ (not (p || r) && not (q || s))
none_of_both true q r s = refl
none_of_both false true true s = refl
none_of_both false true false s = refl
none_of_both false false true s = refl
none_of_both false false false s = refl

lt_not_gt : (p : Ordering) → is_lt p ≡ true → is_gt p ≡ false
lt_not_gt Less e = refl
lt_not_gt Equal e = refl
lt_not_gt Greater e = absurd (false≢true e)

-- the greater and the lesser of two under a total order

module _ {K : Type 0} {C : K → K → Ordering} (o : IsTotalOrder C) where
  lt_is_gt : (a b : K) → is_lt (C a b) ≡ is_gt (C b a)
  lt_is_gt a b = lt_turned (C a b) (C b a) (o.antisymm a b)

  itself : (a : K) → is_gt (C a a) ≡ false
  itself a = ap is_gt (tied_itself o a)

  gt_greater_at : (x a b : K) (t : Bool) → is_lt (C a b) ≡ t
      → is_gt (C (if t then b else a) x) ≡ (is_gt (C a x) || is_gt (C b x))
  gt_greater_at x a b true e = or_second (is_gt (C a x)) (is_gt (C b x)) (λ f. upto o a b x (lt_not_gt (C a b) e) f)
  gt_greater_at x a b false e = or_first (is_gt (C a x)) (is_gt (C b x)) (λ f. upto o b a x (sym (lt_is_gt a b) ∙ e) f)

  gt_lesser_at : (x a b : K) (t : Bool) → is_gt (C a b) ≡ t
      → is_gt (C x (if t then b else a)) ≡ (is_gt (C x a) || is_gt (C x b))
  gt_lesser_at x a b true e = or_second (is_gt (C x a)) (is_gt (C x b))
      (λ f. upto o x b a f (lt_not_gt (C b a) (lt_is_gt b a ∙ e)))
  gt_lesser_at x a b false e = or_first (is_gt (C x a)) (is_gt (C x b)) (λ f. upto o x a b f e)

  left_le_greater : (a b : K) (t : Bool) → is_lt (C a b) ≡ t → is_gt (C a (if t then b else a)) ≡ false
  left_le_greater a b true e = lt_not_gt (C a b) e
  left_le_greater a b false e = itself a

  right_le_greater : (a b : K) (t : Bool) → is_lt (C a b) ≡ t → is_gt (C b (if t then b else a)) ≡ false
  right_le_greater a b true e = itself b
  right_le_greater a b false e = sym (lt_is_gt a b) ∙ e

  lesser_le_left : (a b : K) (t : Bool) → is_gt (C a b) ≡ t → is_gt (C (if t then b else a) a) ≡ false
  lesser_le_left a b true e = lt_not_gt (C b a) (lt_is_gt b a ∙ e)
  lesser_le_left a b false e = itself a

  lesser_le_right : (a b : K) (t : Bool) → is_gt (C a b) ≡ t → is_gt (C (if t then b else a) b) ≡ false
  lesser_le_right a b true e = itself b
  lesser_le_right a b false e = e

-- two intervals

module _ {V : Type 0} {order : V → V → Ordering} (o : IsTotalOrder order) where
  abbrev C : Cut V → Cut V → Ordering
  C = cut_cmp order

  below_between : (i j : Interval V) (v : V) → is_below order (between order i j) v
      ≡ (is_below order i v || is_below order j v)
  below_between i j v =
      before_is o (greater_lower order i.lower j.lower) v
      ∙ ap (λ c. is_gt (C c (before v))) (greater_cut o i.lower j.lower)
      ∙ gt_greater_at (cut_total o) (before v) (lower_cut i.lower) (lower_cut j.lower)
      (is_lt (C (lower_cut i.lower) (lower_cut j.lower))) refl
      ∙ ap (λ p. p || is_gt (C (lower_cut j.lower) (before v))) (sym (before_is o i.lower v))
      ∙ ap (λ p. is_below order i v || p) (sym (before_is o j.lower v))

  above_between : (i j : Interval V) (v : V) → is_above order (between order i j) v
      ≡ (is_above order i v || is_above order j v)
  above_between i j v =
      after_is o (lesser_upper order i.upper j.upper) v
      ∙ ap (λ c. is_gt (C (after v) c)) (lesser_cut o i.upper j.upper)
      ∙ gt_lesser_at (cut_total o) (after v) (upper_cut i.upper) (upper_cut j.upper)
      (is_gt (C (upper_cut i.upper) (upper_cut j.upper))) refl
      ∙ ap (λ p. p || is_gt (C (after v) (upper_cut j.upper))) (sym (after_is o i.upper v))
      ∙ ap (λ p. is_above order i v || p) (sym (after_is o j.upper v))

  pub holds_between : (i j : Interval V) (v : V) → holds order (between order i j) v
      ≡ (holds order i v && holds order j v)
  holds_between i j v =
      ap (λ p. not (p || is_above order (between order i j) v)) (below_between i j v)
      ∙ ap (λ p. not ((is_below order i v || is_below order j v) || p)) (above_between i j v)
      ∙ none_of_both (is_below order i v) (is_below order j v) (is_above order i v) (is_above order j v)

  -- ends that are further in leave nothing either
  still_nothing : (low high low' high' : End V) → leaves_nothing order low high ≡ true
      → is_gt (C (lower_cut low) (lower_cut low')) ≡ false → is_gt (C (upper_cut high') (upper_cut high)) ≡ false
      → leaves_nothing order low' high' ≡ true
  still_nothing low high low' high' nothing below above =
      let crossed = not-true (is_gt (C (upper_cut high) (lower_cut low))) (sym (nothing_is o low high) ∙ nothing) in
      nothing_is o low' high' ∙ ap not (upto (cut_total o) (upper_cut high') (lower_cut low) (lower_cut low')
      (upto (cut_total o) (upper_cut high') (upper_cut high) (lower_cut low) above crossed) below)

  -- an empty interval holds nothing
  pub holds_nothing : (i : Interval V) (v : V) → is_empty order i ≡ true → holds order i v ≡ false
  holds_nothing i v nothing = by (is_below order i v) (is_above order i v) refl refl
    where
      after_first : is_gt (C (after v) (before v)) ≡ true
      after_first = rw (tied_itself o v) refl

      by : (p q : Bool) → is_below order i v ≡ p → is_above order i v ≡ q → not (p || q) ≡ false
      by true q e f = refl
      by false true e f = refl
      by false false e f =
          let low = sym (before_is o i.lower v) ∙ e in
          let high = sym (after_is o i.upper v) ∙ f in
          let crossed = not-true (is_gt (C (upper_cut i.upper) (lower_cut i.lower)))
          (sym (nothing_is o i.lower i.upper) ∙ nothing) in
          absurd (false≢true (sym (upto (cut_total o) (after v) (lower_cut i.lower) (before v)
          (upto (cut_total o) (after v) (upper_cut i.upper) (lower_cut i.lower) high crossed) low) ∙ after_first))

  -- many intervals

  fold_below : (v : V) (acc : Interval V) (xs : List (Interval V))
      → is_below order (fold (between order) acc xs) v ≡ (is_below order acc v || list_any (λ i. is_below order i v) xs)
  fold_below v acc [] = or_nothing (is_below order acc v)
  fold_below v acc (x ∷ xs) = fold_below v (between order acc x) xs
      ∙ ap (λ p. p || list_any (λ i. is_below order i v) xs) (below_between acc x v)
      ∙ or_apart (is_below order acc v) (is_below order x v) (list_any (λ i. is_below order i v) xs)

  fold_above : (v : V) (acc : Interval V) (xs : List (Interval V))
      → is_above order (fold (between order) acc xs) v ≡ (is_above order acc v || list_any (λ i. is_above order i v) xs)
  fold_above v acc [] = or_nothing (is_above order acc v)
  fold_above v acc (x ∷ xs) = fold_above v (between order acc x) xs
      ∙ ap (λ p. p || list_any (λ i. is_above order i v) xs) (above_between acc x v)
      ∙ or_apart (is_above order acc v) (is_above order x v) (list_any (λ i. is_above order i v) xs)

  pub common_below : (xs : List (Interval V)) (v : V) → is_below order (common order xs) v
      ≡ list_any (λ i. is_below order i v) xs
  common_below xs v = fold_below v everything xs

  pub common_above : (xs : List (Interval V)) (v : V) → is_above order (common order xs) v
      ≡ list_any (λ i. is_above order i v) xs
  common_above xs v = fold_above v everything xs

  all_hold : (v : V) (xs : List (Interval V)) → not (list_any (λ i. is_below order i v) xs || list_any
      (λ i. is_above order i v) xs) ≡ list_all (λ i. holds order i v) xs
  all_hold v [] = refl
  all_hold v (x ∷ xs) = none_of_both (is_below order x v) (list_any (λ i. is_below order i v) xs) (is_above order x v)
      (list_any (λ i. is_above order i v) xs) ∙ ap (λ p. holds order x v && p) (all_hold v xs)

  pub common_holds : (xs : List (Interval V)) (v : V) → holds order (common order xs) v
      ≡ list_all (λ i. holds order i v) xs
  common_holds xs v = ap (λ p. not (p || is_above order (common order xs) v)) (common_below xs v)
      ∙ ap (λ p. not (list_any (λ i. is_below order i v) xs || p)) (common_above xs v) ∙ all_hold v xs

  -- the ends of what two have in common are further in than theirs
  left_lower : (a b : End V) → is_gt (C (lower_cut a) (lower_cut (greater_lower order a b))) ≡ false
  left_lower a b = ap (λ c. is_gt (C (lower_cut a) c)) (greater_cut o a b)
      ∙ left_le_greater (cut_total o) (lower_cut a) (lower_cut b) (is_lt (C (lower_cut a) (lower_cut b))) refl

  right_lower : (a b : End V) → is_gt (C (lower_cut b) (lower_cut (greater_lower order a b))) ≡ false
  right_lower a b = ap (λ c. is_gt (C (lower_cut b) c)) (greater_cut o a b)
      ∙ right_le_greater (cut_total o) (lower_cut a) (lower_cut b) (is_lt (C (lower_cut a) (lower_cut b))) refl

  left_upper : (a b : End V) → is_gt (C (upper_cut (lesser_upper order a b)) (upper_cut a)) ≡ false
  left_upper a b = ap (λ c. is_gt (C c (upper_cut a))) (lesser_cut o a b)
      ∙ lesser_le_left (cut_total o) (upper_cut a) (upper_cut b) (is_gt (C (upper_cut a) (upper_cut b))) refl

  right_upper : (a b : End V) → is_gt (C (upper_cut (lesser_upper order a b)) (upper_cut b)) ≡ false
  right_upper a b = ap (λ c. is_gt (C c (upper_cut b))) (lesser_cut o a b)
      ∙ lesser_le_right (cut_total o) (upper_cut a) (upper_cut b) (is_gt (C (upper_cut a) (upper_cut b))) refl

  fold_lower : (acc : Interval V) (xs : List (Interval V))
      → is_gt (C (lower_cut acc.lower) (lower_cut (fold (between order) acc xs).lower)) ≡ false
  fold_lower acc [] = itself (cut_total o) (lower_cut acc.lower)
  fold_lower acc (x ∷ xs) = upto (cut_total o) (lower_cut acc.lower)
      (lower_cut (greater_lower order acc.lower x.lower))
      (lower_cut (fold (between order) (between order acc x) xs).lower) (left_lower acc.lower x.lower)
      (fold_lower (between order acc x) xs)

  fold_upper : (acc : Interval V) (xs : List (Interval V))
      → is_gt (C (upper_cut (fold (between order) acc xs).upper) (upper_cut acc.upper)) ≡ false
  fold_upper acc [] = itself (cut_total o) (upper_cut acc.upper)
  fold_upper acc (x ∷ xs) = upto (cut_total o) (upper_cut (fold (between order) (between order acc x) xs).upper)
      (upper_cut (lesser_upper order acc.upper x.upper)) (upper_cut acc.upper) (fold_upper (between order acc x) xs)
      (left_upper acc.upper x.upper)

  pub stays_empty : (xs ys : List (Interval V)) → is_empty order (common order xs) ≡ true
      → is_empty order (common order (xs ++ ys)) ≡ true
  stays_empty xs ys nothing =
      let met = common order xs in
      rw (fold-append (between order) everything xs ys)
      (still_nothing met.lower met.upper (fold (between order) met ys).lower
      (fold (between order) met ys).upper nothing (fold_lower met ys) (fold_upper met ys))

  -- the ends of one of the intervals are further out than those of what all have in common
  member_lower : (acc : Interval V) (xs : List (Interval V)) (k : ℕ) (x : Interval V) → slice_get xs k ≡ Some x
      → is_gt (C (lower_cut x.lower) (lower_cut (fold (between order) acc xs).lower)) ≡ false
  member_lower acc [] k x at = cc
  member_lower acc (y ∷ xs) zero x at =
      let same : y ≡ x = cc in
      subst (λ z. is_gt (C (lower_cut z.lower) (lower_cut (fold (between order) (between order acc y) xs).lower))
      ≡ false) same
      (upto (cut_total o) (lower_cut y.lower) (lower_cut (greater_lower order acc.lower y.lower))
      (lower_cut (fold (between order) (between order acc y) xs).lower) (right_lower acc.lower y.lower)
      (fold_lower (between order acc y) xs))
  member_lower acc (y ∷ xs) (suc k) x at = member_lower (between order acc y) xs k x at

  member_upper : (acc : Interval V) (xs : List (Interval V)) (k : ℕ) (x : Interval V) → slice_get xs k ≡ Some x
      → is_gt (C (upper_cut (fold (between order) acc xs).upper) (upper_cut x.upper)) ≡ false
  member_upper acc [] k x at = cc
  member_upper acc (y ∷ xs) zero x at =
      let same : y ≡ x = cc in
      subst (λ z. is_gt (C (upper_cut (fold (between order) (between order acc y) xs).upper) (upper_cut z.upper))
      ≡ false) same
      (upto (cut_total o) (upper_cut (fold (between order) (between order acc y) xs).upper)
      (upper_cut (lesser_upper order acc.upper y.upper)) (upper_cut y.upper) (fold_upper (between order acc y) xs)
      (right_upper acc.upper y.upper))
  member_upper acc (y ∷ xs) (suc k) x at = member_upper (between order acc y) xs k x at

  -- the greater of two is one of them
  greater_within : (a b : End V) (c : Cut V) → is_gt (C (lower_cut a) c) ≡ false → is_gt (C (lower_cut b) c) ≡ false
      → is_gt (C (lower_cut (greater_lower order a b)) c) ≡ false
  greater_within a b c p q = ap (λ x. is_gt (C x c)) (greater_cut o a b) ∙ by (is_lt (C (lower_cut a) (lower_cut b)))
    where
      by : (t : Bool) → is_gt (C (if t then lower_cut b else lower_cut a) c) ≡ false
      by true = q
      by false = p

  lesser_within : (a b : End V) (c : Cut V) → is_gt (C c (upper_cut a)) ≡ false → is_gt (C c (upper_cut b)) ≡ false
      → is_gt (C c (upper_cut (lesser_upper order a b))) ≡ false
  lesser_within a b c p q = ap (λ x. is_gt (C c x)) (lesser_cut o a b) ∙ by (is_gt (C (upper_cut a) (upper_cut b)))
    where
      by : (t : Bool) → is_gt (C c (if t then upper_cut b else upper_cut a)) ≡ false
      by true = q
      by false = p

  pub empty_by_two : (xs : List (Interval V)) → SomeTwoApart order xs → is_empty order (common order xs) ≡ true
  empty_by_two xs two =
      let met = common order xs in
      still_nothing (greater_lower order two.first.lower two.second.lower)
      (lesser_upper order two.first.upper two.second.upper) met.lower met.upper two.apart
      (greater_within two.first.lower two.second.lower (lower_cut met.lower)
      (member_lower everything xs two.place two.first two.has_first)
      (member_lower everything xs two.later two.second two.has_second))
      (lesser_within two.first.upper two.second.upper (upper_cut met.upper)
      (member_upper everything xs two.place two.first two.has_first)
      (member_upper everything xs two.later two.second two.has_second))

  -- an end of what all have in common is that of one of them
  abbrev IsOf : (Interval V → End V) → End V → List (Interval V) → Type 0
  IsOf side end xs = (k : ℕ) × (x : Interval V) × (slice_get xs k ≡ Some x) × (end ≡ side x)

  lower_of : (acc : Interval V) (xs : List (Interval V))
      → ((fold (between order) acc xs).lower ≡ acc.lower) ⊎ IsOf (λ i. i.lower) (fold (between order) acc xs).lower xs
  lower_of acc [] = inl refl
  lower_of acc (y ∷ xs) = by (lower_of (between order acc y) xs) (one (is_lt (lower_cmp order acc.lower y.lower)))
    where
      one : (t : Bool) → ((if t then y.lower else acc.lower) ≡ acc.lower) ⊎
          ((if t then y.lower else acc.lower) ≡ y.lower)
      one true = inr refl
      one false = inl refl

      by : ((fold (between order) (between order acc y) xs).lower ≡ greater_lower order acc.lower y.lower) ⊎ IsOf
          (λ i. i.lower) (fold (between order) (between order acc y) xs).lower xs
          → (greater_lower order acc.lower y.lower ≡ acc.lower) ⊎ (greater_lower order acc.lower y.lower ≡ y.lower)
          → ((fold (between order) (between order acc y) xs).lower ≡ acc.lower) ⊎ IsOf (λ i. i.lower)
          (fold (between order) (between order acc y) xs).lower (y ∷ xs)
      by (inl e) (inl f) = inl (e ∙ f)
      by (inl e) (inr f) = inr (0, y, refl, e ∙ f)
      by (inr (k, x, at, e)) f = inr (suc k, x, at, e)

  upper_of : (acc : Interval V) (xs : List (Interval V))
      → ((fold (between order) acc xs).upper ≡ acc.upper) ⊎ IsOf (λ i. i.upper) (fold (between order) acc xs).upper xs
  upper_of acc [] = inl refl
  upper_of acc (y ∷ xs) = by (upper_of (between order acc y) xs) (one (is_gt (upper_cmp order acc.upper y.upper)))
    where
      one : (t : Bool) → ((if t then y.upper else acc.upper) ≡ acc.upper) ⊎
          ((if t then y.upper else acc.upper) ≡ y.upper)
      one true = inr refl
      one false = inl refl

      by : ((fold (between order) (between order acc y) xs).upper ≡ lesser_upper order acc.upper y.upper) ⊎ IsOf
          (λ i. i.upper) (fold (between order) (between order acc y) xs).upper xs
          → (lesser_upper order acc.upper y.upper ≡ acc.upper) ⊎ (lesser_upper order acc.upper y.upper ≡ y.upper)
          → ((fold (between order) (between order acc y) xs).upper ≡ acc.upper) ⊎ IsOf (λ i. i.upper)
          (fold (between order) (between order acc y) xs).upper (y ∷ xs)
      by (inl e) (inl f) = inl (e ∙ f)
      by (inl e) (inr f) = inr (0, y, refl, e ∙ f)
      by (inr (k, x, at, e)) f = inr (suc k, x, at, e)

  free_above : (low : End V) → leaves_nothing order low Free ≡ false
  free_above Free = refl
  free_above (With a) = refl
  free_above (Without a) = refl

  pub two_apart : (xs : List (Interval V)) → is_empty order (common order xs) ≡ true → SomeTwoApart order xs
  two_apart xs nothing = by (lower_of everything xs) (upper_of everything xs)
    where
      met : Interval V
      met = common order xs

      ordered : (k j : ℕ) (x y : Interval V) → slice_get xs k ≡ Some x → slice_get xs j ≡ Some y
          → leaves_nothing order x.lower y.upper ≡ true → (k ≤ j) ⊎ (j < k) → SomeTwoApart order xs
      ordered k j x y at_k at_j apart (inl early) =
          record {
            place = k;
            later = j;
            in_order = early;
            first = x;
            second = y;
            has_first = at_k;
            has_second =
                at_j;
            apart = still_nothing x.lower y.upper (greater_lower order x.lower y.lower)
                (lesser_upper order x.upper y.upper) apart (left_lower x.lower y.lower) (right_upper x.upper y.upper);
          }
      ordered k j x y at_k at_j apart (inr late) =
          record {
            place = j;
            later = k;
            in_order = omega (arith, late);
            first = y;
            second = x;
            has_first =
                at_j;
            has_second = at_k;
            apart = still_nothing x.lower y.upper (greater_lower order y.lower x.lower)
                (lesser_upper order y.upper x.upper) apart (right_lower y.lower x.lower) (left_upper y.upper x.upper);
          }

      by : ((common order xs).lower ≡ Free) ⊎ IsOf (λ i. i.lower) (common order xs).lower xs
          → ((common order xs).upper ≡ Free) ⊎ IsOf (λ i. i.upper) (common order xs).upper xs → SomeTwoApart order xs
      by (inl e) f = absurd (false≢true (sym (ap (λ low. leaves_nothing order low (common order xs).upper) e)
          ∙ nothing))
      by (inr e) (inl f) = absurd (false≢true (sym (free_above (common order xs).lower)
          ∙ ap (λ high. leaves_nothing order (common order xs).lower high) (sym f) ∙ nothing))
      by (inr (k, x, at_k, e)) (inr (j, y, at_j, f)) =
          ordered k j x y at_k at_j (ap (λ low. leaves_nothing order low y.upper) (sym e)
          ∙ ap (λ high. leaves_nothing order (common order xs).lower high) (sym f) ∙ nothing) (which (cases_lt j k))
        where
          which : (j < k) ⊎ (k ≤ j) → (k ≤ j) ⊎ (j < k)
          which (inl late) = inr late
          which (inr early) = inl early
