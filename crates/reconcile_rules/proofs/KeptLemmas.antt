-- An interval is kept exactly where it stands after the last one that has nothing in common with the last of all.
use Rattle.std.proofs.Common.{◌≡◌, ◌↔◌, ℕ, zero, suc, ◌≤◌, ◌<◌, Bool, true, false, not, List, [], ◌∷◌, Option, Some, None, refl, sym, ◌∙◌, ap, subst, arith, ◌⊎◌, inl, inr}
use Rattle.std.specs.Prelude.{slice_get, fold, filter, if◌then◌else◌, Contains}
use Rattle.std.specs.Cmp.{IsTotalOrder, upto, on_total, then_total, tied_itself, nat_cmp_total}
use Rattle.std.specs.declared.cmp.Ordering.{Ordering}
use Rattle.std.specs.declared.cmp.Ordering.TheVariants.{Less, Equal, Greater}
use Rattle.std.specs.Ordering.{is_lt, is_gt, nat_cmp, ordering_then, ordering_reverse}
use Rattle.std.proofs.lemmas.Bool.{cases_Bool, cases_lt, false≢true, not-true, not-false}
use Rattle.interval_sets.specs.declared.interval.Interval.{Interval}
use Rattle.interval_sets.specs.Intervals.{is_empty, are_apart, ends_cmp, lower_cmp, upper_cmp}
use Rattle.interval_sets.specs.Many.{SomeTwoApart, common}
use Rattle.version_order.specs.Ranks.{items_cmp}
use Rattle.version_order.specs.Order.{items_total}
use Rattle.reconcile_rules.specs.declared.request.IntervalRequest.{IntervalRequest}
use Rattle.reconcile_rules.specs.Apart.{common_of, unless_empty}
use Rattle.reconcile_rules.specs.Relaxed.{drop_cmp, is_before, from_on, is_kept, kept, later_of, last_of, apart_from, is_after, dropped_of, IsLongestRest}
use Rattle.reconcile_rules.proofs.Ends.{lower_turned, apart_from_last, apart_turned}
use Rattle.reconcile_rules.proofs.Pairs.{spans}
use Rattle.reconcile_rules.proofs.Members.{at_some_place}

none_some : {A : Type 0} {x : A} → None ≡ Some x → ⊥
none_some e = cc

-- ---- members of lists

pub record In (r : IntervalRequest) (xs : List IntervalRequest) : Type 0 where
  pub place : ℕ
  pub at : slice_get xs place ≡ Some r

later_in : (r x : IntervalRequest) (xs : List IntervalRequest) → In r xs → In r (x ∷ xs)
later_in r x xs i = record { place = suc i.place; at = i.at }

in_empty : (r : IntervalRequest) → In r [] → ⊥
in_empty r i = none_some i.at

in_parts : (r x : IntervalRequest) (xs : List IntervalRequest) → In r (x ∷ xs) → (x ≡ r) ⊎ In r xs
in_parts r x xs i = by i.place i.at
  where
    by : (k : ℕ) → slice_get (x ∷ xs) k ≡ Some r → (x ≡ r) ⊎ In r xs
    by zero at = let same : x ≡ r = cc in inl same
    by (suc k) at = inr (record { place = k; at = at })

in_filter : (f : IntervalRequest → Bool) (xs : List IntervalRequest) (r : IntervalRequest) → In r xs → f r ≡ true
    → In r (filter f xs)
in_filter f [] r i t = absurd (in_empty r i)
in_filter f (x ∷ xs) r i t = by (in_parts r x xs i) (cases_Bool (f x)) (λ j. in_filter f xs r j t)
  where
    by : (x ≡ r) ⊎ In r xs → (f x ≡ true) ⊎ (f x ≡ false) → (In r xs → In r (filter f xs)) → In r (filter f (x ∷ xs))
    by (inl same) (inl so) others = rw so (record { place = 0; at = ap Some same })
    by (inl same) (inr isnt) others = absurd (false≢true (sym isnt ∙ ap f same ∙ t))
    by (inr j) (inl so) others = rw so (later_in r x (filter f xs) (others j))
    by (inr j) (inr isnt) others = rw isnt (others j)

from_filter : (f : IntervalRequest → Bool) (xs : List IntervalRequest) (r : IntervalRequest) → In r (filter f xs)
    → In r xs × (f r ≡ true)
from_filter f [] r i = absurd (in_empty r i)
from_filter f (x ∷ xs) r i = by (cases_Bool (f x)) (from_filter f xs r)
  where
    further : In r xs × (f r ≡ true) → In r (x ∷ xs) × (f r ≡ true)
    further (j, t) = (later_in r x xs j, t)

    head : f x ≡ true → (x ≡ r) ⊎ In r (filter f xs) → (In r (filter f xs) → In r xs × (f r ≡ true))
        → In r (x ∷ xs) × (f r ≡ true)
    head so (inl same) others = (record { place = 0; at = ap Some same }, sym (ap f same) ∙ so)
    head so (inr j) others = further (others j)

    chosen : (t : Bool) → f x ≡ t → In r (if t then x ∷ filter f xs else filter f xs)
    chosen t e = subst (λ b. In r (if b then x ∷ filter f xs else filter f xs)) e i

    by : (f x ≡ true) ⊎ (f x ≡ false) → (In r (filter f xs) → In r xs × (f r ≡ true)) → In r (x ∷ xs) × (f r ≡ true)
    by (inl so) others = head so (in_parts r x (filter f xs) (chosen true so)) others
    by (inr isnt) others = further (others (chosen false isnt))

filter_same : (f g : IntervalRequest → Bool) (xs : List IntervalRequest)
    → ((r : IntervalRequest) → In r xs → f r ≡ g r) → filter f xs ≡ filter g xs
filter_same f g [] same = refl
filter_same f g (x ∷ xs) same =
    let rest = filter_same f g xs (λ r i. same r (later_in r x xs i)) in
    rw (same x (record { place = 0; at = refl })) (ap (λ l. if g x then x ∷ l else l) rest)

-- the request at a place among the intervals
span_of : (xs : List IntervalRequest) (k : ℕ) (i : Interval (List ℕ)) → slice_get (spans xs) k ≡ Some i
    → (r : IntervalRequest) × (slice_get xs k ≡ Some r) × (r.interval ≡ i)
span_of [] k i at = absurd (none_some at)
span_of (x ∷ xs) zero i at = let same : x.interval ≡ i = cc in (x, refl, same)
span_of (x ∷ xs) (suc k) i at = span_of xs k i at

span_at : (xs : List IntervalRequest) (k : ℕ) (r : IntervalRequest) → slice_get xs k ≡ Some r
    → slice_get (spans xs) k ≡ Some r.interval
span_at [] k r at = absurd (none_some at)
span_at (x ∷ xs) zero r at = let same : x ≡ r = cc in ap (λ (y : IntervalRequest). Some y.interval) same
span_at (x ∷ xs) (suc k) r at = span_at xs k r at

-- ---- the last of many

then_not_lt : (p q : Ordering) → is_lt (ordering_then p q) ≡ false → is_lt p ≡ false
then_not_lt Less q e = e
then_not_lt Equal q e = refl
then_not_lt Greater q e = refl

lt_turned : (p q : Ordering) → p ≡ ordering_reverse q → is_lt p ≡ is_gt q
lt_turned p Less e = ap is_lt e
lt_turned p Equal e = ap is_lt e
lt_turned p Greater e = ap is_lt e

module _ (ends : IsTotalOrder (ends_cmp items_cmp)) (law : (is : List (Interval (List ℕ))) → (is_empty items_cmp (common items_cmp is) ≡ true) ↔ SomeTwoApart items_cmp is) where
  drops : IsTotalOrder drop_cmp
  drops =
      then_total (on_total (λ (r : IntervalRequest). r.interval) ends)
      (on_total (λ (r : IntervalRequest). r.number) nat_cmp_total)

  before_turned : (a b : IntervalRequest) → is_before a b ≡ is_gt (drop_cmp b a)
  before_turned a b = lt_turned (drop_cmp a b) (drop_cmp b a) (drops.antisymm a b)

  before_itself : (a : IntervalRequest) → is_before a a ≡ false
  before_itself a = ap is_lt (tied_itself drops a)

  -- not before goes on
  not_before : (a b c : IntervalRequest) → is_before b a ≡ false → is_before c b ≡ false → is_before c a ≡ false
  not_before a b c p q =
      before_turned c a ∙ upto drops a b c (sym (before_turned b a) ∙ p) (sym (before_turned c b) ∙ q)

  -- what is before another is not after it
  before_once : (a b : IntervalRequest) → is_before a b ≡ true → is_before b a ≡ false
  before_once a b e = by (drop_cmp a b) e (before_turned b a)
    where
      by : (p : Ordering) → is_lt p ≡ true → is_before b a ≡ is_gt p → is_before b a ≡ false
      by Less e f = f
      by Equal e f = absurd (false≢true e)
      by Greater e f = absurd (false≢true e)

  -- a last one is among them, and before none of them
  pub record IsLast (xs : List IntervalRequest) (l : IntervalRequest) : Type 0 where
    pub member : In l xs
    pub after : (r : IntervalRequest) → In r xs → is_before l r ≡ false

  record IsLastFrom (a : IntervalRequest) (xs : List IntervalRequest) (l : IntervalRequest) : Type 0 where
    pub member : In l (a ∷ xs)
    pub first : is_before l a ≡ false
    pub after : (r : IntervalRequest) → In r xs → is_before l r ≡ false

  last_from : (a : IntervalRequest) (xs : List IntervalRequest)
      → (l : IntervalRequest) × (fold later_of (Some a) xs ≡ Some l) × IsLastFrom a xs l
  last_from a [] =
      (a, refl, record { member = record { place = 0; at = refl }; first = before_itself a; after = λ r i. absurd (in_empty r i) })
  last_from a (x ∷ xs) = by (cases_Bool (is_before a x)) (λ b. last_from b xs)
    where
      next : (b : IntervalRequest) → In b (a ∷ (x ∷ [])) → is_before b a ≡ false → is_before b x ≡ false
          → later_of (Some a) x ≡ Some b
          → (l : IntervalRequest) × (fold later_of (Some b) xs ≡ Some l) × IsLastFrom b xs l → (l : IntervalRequest) × (fold later_of (Some a) (x ∷ xs) ≡ Some l) × IsLastFrom a (x ∷ xs) l
      next b one p q is (l, e, last) =
          (l, ap (λ s. fold later_of s xs) is ∙ e, record { member = among (in_parts l b xs last.member); first = not_before a b l p last.first; after = λ r i. each r (in_parts r x xs i) })
        where
          near : In b (a ∷ (x ∷ [])) → In b (a ∷ (x ∷ xs))
          near i = either (in_parts b a (x ∷ []) i)
            where
              either : (a ≡ b) ⊎ In b (x ∷ []) → In b (a ∷ (x ∷ xs))
              either (inl same) = record { place = 0; at = ap Some same }
              either (inr j) = second (in_parts b x [] j)
                where
                  second : (x ≡ b) ⊎ In b [] → In b (a ∷ (x ∷ xs))
                  second (inl same) = record { place = 1; at = ap Some same }
                  second (inr k) = absurd (in_empty b k)

          among : (b ≡ l) ⊎ In l xs → In l (a ∷ (x ∷ xs))
          among (inl same) = subst (λ y. In y (a ∷ (x ∷ xs))) same (near one)
          among (inr i) = later_in l a (x ∷ xs) (later_in l x xs i)

          each : (r : IntervalRequest) → (x ≡ r) ⊎ In r xs → is_before l r ≡ false
          each r (inl same) = subst (λ y. is_before l y ≡ false) same (not_before x b l q last.first)
          each r (inr i) = last.after r i

      by : (is_before a x ≡ true) ⊎ (is_before a x ≡ false)
          → ((b : IntervalRequest) → (l : IntervalRequest) × (fold later_of (Some b) xs ≡ Some l) × IsLastFrom b xs l)
          → (l : IntervalRequest) × (fold later_of (Some a) (x ∷ xs) ≡ Some l) × IsLastFrom a (x ∷ xs) l
      by (inl so) others =
          next x (record { place = 1; at = refl }) (before_once a x so) (before_itself x) (rw so refl) (others x)
      by (inr isnt) others = next a (record { place = 0; at = refl }) (before_itself a) isnt (rw isnt refl) (others a)

  some_injective : {A : Type 0} {x y : A} → Some x ≡ Some y → x ≡ y
  some_injective e = cc

  last_is : (xs : List IntervalRequest) (l : IntervalRequest) → last_of xs ≡ Some l → IsLast xs l
  last_is [] l e = absurd (none_some e)
  last_is (x ∷ xs) l e = by (last_from x xs)
    where
      by : (m : IntervalRequest) × (fold later_of (Some x) xs ≡ Some m) × IsLastFrom x xs m → IsLast (x ∷ xs) l
      by (m, f, last) =
          let same : m ≡ l = some_injective (sym f ∙ e) in
          subst (IsLast (x ∷ xs)) same (record { member = last.member; after = λ r i. each r (in_parts r x xs i) })
        where
          each : (r : IntervalRequest) → (x ≡ r) ⊎ In r xs → is_before m r ≡ false
          each r (inl same) = subst (λ y. is_before m y ≡ false) same last.first
          each r (inr i) = last.after r i

  last_none : (xs : List IntervalRequest) → last_of xs ≡ None → xs ≡ []
  last_none [] e = refl
  last_none (x ∷ xs) e = by (last_from x xs)
    where
      by : (m : IntervalRequest) × (fold later_of (Some x) xs ≡ Some m) × IsLastFrom x xs m → x ∷ xs ≡ []
      by (m, f, last) = absurd (none_some (sym e ∙ f))

  -- ---- intervals that have nothing in common

  record Apart (xs : List IntervalRequest) : Type 0 where
    pub one : IntervalRequest
    pub other : IntervalRequest
    pub has_one : In one xs
    pub has_other : In other xs
    pub apart : are_apart items_cmp one.interval other.interval ≡ true

  apart_where_empty : (xs : List IntervalRequest) → is_empty items_cmp (common_of xs) ≡ true → Apart xs
  apart_where_empty xs nothing = by ((law (spans xs)).0 nothing)
    where
      pair : (two : SomeTwoApart items_cmp (spans xs))
          → (r : IntervalRequest) × (slice_get xs two.place ≡ Some r) × (r.interval ≡ two.first)
          → (r : IntervalRequest) × (slice_get xs two.later ≡ Some r) × (r.interval ≡ two.second) → Apart xs
      pair two (r, at_r, is_r) (s, at_s, is_s) =
          record { one = r; other = s; has_one = record { place = two.place; at = at_r }; has_other = record { place = two.later; at = at_s }; apart = rw (is_r, is_s) two.apart }

      by : SomeTwoApart items_cmp (spans xs) → Apart xs
      by two = pair two (span_of xs two.place two.first two.has_first) (span_of xs two.later two.second two.has_second)

  empty_where_apart : (xs : List IntervalRequest) (r s : IntervalRequest) → In r xs → In s xs
      → are_apart items_cmp r.interval s.interval ≡ true → is_empty items_cmp (common_of xs) ≡ true
  empty_where_apart xs r s i j e = (law (spans xs)).1 (by (cases_lt j.place i.place))
    where
      by : (j.place < i.place) ⊎ (i.place ≤ j.place) → SomeTwoApart items_cmp (spans xs)
      by (inl less) =
          record { place = j.place; later = i.place; in_order = omega (arith, less); first = s.interval; second = r.interval; has_first = span_at xs j.place s j.at; has_second = span_at xs i.place r i.at; apart = apart_turned items_total r.interval s.interval e }
      by (inr le) =
          record { place = i.place; later = j.place; in_order = le; first = r.interval; second = s.interval; has_first = span_at xs i.place r i.at; has_second = span_at xs j.place s j.at; apart = e }

  -- ---- under a last one

  module _ (all : List IntervalRequest) (l : IntervalRequest) (last : IsLast all l) where
    begins : (r : IntervalRequest) → In r all → is_gt (lower_cmp items_cmp r.interval.lower l.interval.lower) ≡ false
    begins r i =
        sym (lower_turned items_total l.interval.lower r.interval.lower)
        ∙ then_not_lt (lower_cmp items_cmp l.interval.lower r.interval.lower)
        (upper_cmp items_cmp l.interval.upper r.interval.upper)
        (then_not_lt (ends_cmp items_cmp l.interval r.interval) (nat_cmp l.number r.number) (last.after r i))

    abbrev clashing : List IntervalRequest
    clashing = apart_from l.interval all

    -- of some that have nothing in common, one has nothing in common with the last
    clashes : (xs : List IntervalRequest) → ((r : IntervalRequest) → In r xs → In r all)
        → is_empty items_cmp (common_of xs) ≡ true → (r : IntervalRequest) × In r xs × In r clashing
    clashes xs within nothing = by (apart_where_empty xs nothing)
      where
        by : Apart xs → (r : IntervalRequest) × In r xs × In r clashing
        by two =
            which
            (apart_from_last items_total two.one.interval two.other.interval l.interval (begins two.one (within two.one two.has_one)) (begins two.other (within two.other two.has_other)) two.apart)
          where
            which : (are_apart items_cmp two.one.interval l.interval ≡ true) ⊎ (are_apart items_cmp two.other.interval l.interval ≡ true)
                → (r : IntervalRequest) × In r xs × In r clashing
            which (inl e) =
                (two.one, two.has_one, in_filter (λ r. are_apart items_cmp r.interval l.interval) all two.one (within two.one two.has_one) e)
            which (inr e) =
                (two.other, two.has_other, in_filter (λ r. are_apart items_cmp r.interval l.interval) all two.other (within two.other two.has_other) e)

    within_from_on : (m r : IntervalRequest) → In r (from_on m all) → In r all
    within_from_on m r i = (from_filter (λ s. not (is_before s m)) all r i).0

    kept_at : (d : Option IntervalRequest) → last_of clashing ≡ d → (m : IntervalRequest) → In m all
        → is_kept all m ≡ is_after d m
    kept_at None e m i = ap not (by (cases_Bool (is_empty items_cmp (common_of (from_on m all)))))
      where
        none : (r : IntervalRequest) × In r (from_on m all) × In r clashing → ⊥
        none (r, there, k) = in_empty r (subst (In r) (last_none clashing e) k)

        by : (is_empty items_cmp (common_of (from_on m all)) ≡ true) ⊎ (is_empty items_cmp (common_of (from_on m all)) ≡ false)
            → is_empty items_cmp (common_of (from_on m all)) ≡ false
        by (inl nothing) = absurd (none (clashes (from_on m all) (within_from_on m) nothing))
        by (inr some) = some
    kept_at (Some d) e m i =
        by (cases_Bool (is_before d m)) (cases_Bool (is_empty items_cmp (common_of (from_on m all))))
      where
        dropped : IsLast clashing d
        dropped = last_is clashing d e

        -- one from m on that clashes is not after d, so m is not either
        reaches : (r : IntervalRequest) × In r (from_on m all) × In r clashing → is_before d m ≡ false
        reaches (r, there, k) =
            not_before m r d (not-true (is_before r m) (from_filter (λ s. not (is_before s m)) all r there).1)
            (dropped.after r k)

        in_all : In d all × (are_apart items_cmp d.interval l.interval ≡ true)
        in_all = from_filter (λ r. are_apart items_cmp r.interval l.interval) all d dropped.member

        by : (is_before d m ≡ true) ⊎ (is_before d m ≡ false)
            → (is_empty items_cmp (common_of (from_on m all)) ≡ true) ⊎
            (is_empty items_cmp (common_of (from_on m all)) ≡ false)
            → is_kept all m ≡ is_before d m
        by (inl after) (inl nothing) =
            absurd (false≢true (sym (reaches (clashes (from_on m all) (within_from_on m) nothing)) ∙ after))
        by (inl after) (inr some) = ap not some ∙ sym after
        by (inr at) (inl nothing) = ap not nothing ∙ sym at
        by (inr at) (inr some) =
            absurd
            (false≢true (sym some ∙ empty_where_apart (from_on m all) d l (in_filter (λ s. not (is_before s m)) all d in_all.0 (ap not at)) (in_filter (λ s. not (is_before s m)) all l last.member (ap not (last.after m i))) in_all.1))

    kept_after : kept all ≡ filter (is_after (last_of clashing)) all
    kept_after =
        filter_same (is_kept all) (is_after (last_of clashing)) all (λ r i. kept_at (last_of clashing) refl r i)

    -- those that are kept have a version in common
    kept_some : (d : Option IntervalRequest) → last_of clashing ≡ d
        → is_empty items_cmp (common_of (filter (is_after d) all)) ≡ true → ⊥
    kept_some d e nothing =
        by d e (clashes (filter (is_after d) all) (λ r i. (from_filter (is_after d) all r i).0) nothing)
      where
        by : (d : Option IntervalRequest) → last_of clashing ≡ d
            → (r : IntervalRequest) × In r (filter (is_after d) all) × In r clashing → ⊥
        by None e (r, there, k) = in_empty r (subst (In r) (last_none clashing e) k)
        by (Some d) e (r, there, k) =
            false≢true (sym ((last_is clashing d e).after r k) ∙ (from_filter (is_after (Some d)) all r there).1)

  pub kept_is : (all : List IntervalRequest) (l : Option IntervalRequest) → last_of all ≡ l
      → kept all ≡ filter (is_after (dropped_of l all)) all
  kept_is all None e = subst (λ xs. kept xs ≡ filter (is_after None) xs) (sym (last_none all e)) refl
  kept_is all (Some l) e = kept_after all l (last_is all l e)

  pub kept_holds : (all : List IntervalRequest) (l : Option IntervalRequest) → last_of all ≡ l
      → is_empty items_cmp (common_of (filter (is_after (dropped_of l all)) all)) ≡ true → ⊥
  kept_holds all None e nothing =
      false≢true
      (subst (λ xs. is_empty items_cmp (common_of (filter (is_after None) xs)) ≡ true) (last_none all e) nothing)
  kept_holds all (Some l) e nothing =
      kept_some all l (last_is all l e) (last_of (apart_from l.interval all)) refl nothing

  pub kept_found : (all : List IntervalRequest) (l d : Option IntervalRequest) (met : Interval (List ℕ))
      → l ≡ last_of all → d ≡ dropped_of l all → Some met ≡ unless_empty (common_of (filter (is_after d) all))
      → met ≡ common_of (kept all)
  kept_found all l d met is_last is_dropped e =
      by (cases_Bool (is_empty items_cmp (common_of (filter (is_after d) all))))
      ∙ ap common_of (ap (λ x. filter (is_after x) all) is_dropped ∙ sym (kept_is all l (sym is_last)))
    where
      by : (is_empty items_cmp (common_of (filter (is_after d) all)) ≡ true) ⊎ (is_empty items_cmp (common_of (filter (is_after d) all)) ≡ false)
          → met ≡ common_of (filter (is_after d) all)
      by (inl so) = absurd (none_some (sym (e ∙ rw so refl)))
      by (inr isnt) = some_injective (e ∙ rw isnt refl)

  pub kept_found_some : (all : List IntervalRequest) (l d : Option IntervalRequest) → l ≡ last_of all
      → d ≡ dropped_of l all → None ≡ unless_empty (common_of (filter (is_after d) all)) → ⊥
  kept_found_some all l d is_last is_dropped e =
      by (cases_Bool (is_empty items_cmp (common_of (filter (is_after d) all))))
    where
      by : (is_empty items_cmp (common_of (filter (is_after d) all)) ≡ true) ⊎ (is_empty items_cmp (common_of (filter (is_after d) all)) ≡ false)
          → ⊥
      by (inl so) =
          kept_holds all l (sym is_last)
          (subst (λ x. is_empty items_cmp (common_of (filter (is_after x) all)) ≡ true) is_dropped so)
      by (inr isnt) =
          let there : unless_empty (common_of (filter (is_after d) all)) ≡ Some (common_of (filter (is_after d) all)) =
          rw isnt refl in
          none_some (e ∙ there)

  -- ---- what is kept is the longest rest that has a version in common

  member_in : (all : List IntervalRequest) (r : IntervalRequest) → Contains all r → In r all
  member_in all r c = by (at_some_place all r c)
    where
      by : (k : ℕ) × (slice_get all k ≡ Some r) → In r all
      by (k, at) = record { place = k; at = at }

  stays_after : (d : Option IntervalRequest) (r other : IntervalRequest) → is_after d r ≡ true
      → is_before other r ≡ false → is_after d other ≡ true
  stays_after None r other h at = refl
  stays_after (Some d) r other h at = by (cases_Bool (is_before d other))
    where
      by : (is_before d other ≡ true) ⊎ (is_before d other ≡ false) → is_before d other ≡ true
      by (inl so) = so
      by (inr isnt) = absurd (false≢true (sym (not_before r other d at isnt) ∙ h))

  rest_stays : (all : List IntervalRequest) (l : Option IntervalRequest) → last_of all ≡ l
      → (r other : IntervalRequest) → In r all → In other all → is_kept all r ≡ true → is_before other r ≡ false
      → is_kept all other ≡ true
  rest_stays all None e r other i j h at = absurd (in_empty r (subst (In r) (last_none all e) i))
  rest_stays all (Some l) e r other i j h at =
      let d = last_of (apart_from l.interval all) in
      kept_at all l (last_is all l e) d refl other j ∙ stays_after d r other
      (sym (kept_at all l (last_is all l e) d refl r i) ∙ h) at

  pub longest_rest : (all : List IntervalRequest) → IsLongestRest all (is_kept all)
  longest_rest all = record {
    is_rest =
        λ r other i j h at. rest_stays all (last_of all) refl r other (member_in all r i) (member_in all other j) h at;
    in_common = common (cases_Bool (is_empty items_cmp (common_of (kept all))));
    longest = λ r i h. not-false (is_empty items_cmp (common_of (from_on r all))) h;
  }
    where
      common : (is_empty items_cmp (common_of (kept all)) ≡ true) ⊎ (is_empty items_cmp (common_of (kept all)) ≡ false)
          → is_empty items_cmp (common_of (kept all)) ≡ false
      common (inl nothing) =
          absurd
          (kept_holds all (last_of all) refl (ap (λ xs. is_empty items_cmp (common_of xs)) (sym (kept_is all (last_of all) refl)) ∙ nothing))
      common (inr some) = some
