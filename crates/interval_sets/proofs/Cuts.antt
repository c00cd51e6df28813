-- An end is a cut between values: just before a value, just after it, or outermost. Cuts have one total order, and what
-- intervals say is said by it.
use Rattle.std.proofs.Common.{◌≡◌, ℕ, Bool, true, false, not, if◌then◌else◌, refl, sym, ◌∙◌, ap, subst, Option, Some, None}
use Rattle.std.specs.declared.cmp.Ordering.{Ordering}
use Rattle.std.specs.declared.cmp.Ordering.TheVariants.{Less, Equal, Greater}
use Rattle.std.specs.Ordering.{is_lt, is_gt, nat_cmp, ordering_then, ordering_reverse}
use Rattle.std.specs.Option.{option_cmp}
use Rattle.std.specs.Cmp.{IsTotalOrder, on_total, then_total, nat_cmp_total}
use Rattle.std.specs.Cmp.Lexicographic.{options_total}
use Rattle.interval_sets.specs.declared.interval.End.{End}
use Rattle.interval_sets.specs.declared.interval.End.TheVariants.{Free, With, Without}
use Rattle.interval_sets.specs.declared.interval.Interval.{Interval}
use Rattle.interval_sets.specs.Intervals.{lower_cmp, upper_cmp, ends_cmp, leaves_nothing, is_before, is_after, greater_lower, lesser_upper}

-- class 0 is below all values, 1 beside a value, 2 above all; side 0 is before the value, 1 after it
pub record Cut (V : Type 0) : Type 0 where
  pub class : ℕ
  pub value : Option V
  pub side : ℕ

abbrev pub lowest : {V : Type 0} → Cut V
lowest = record { class = 0; value = None; side = 0 }

abbrev pub highest : {V : Type 0} → Cut V
highest = record { class = 2; value = None; side = 0 }

abbrev pub before : {V : Type 0} → V → Cut V
before v = record { class = 1; value = Some v; side = 0 }

abbrev pub after : {V : Type 0} → V → Cut V
after v = record { class = 1; value = Some v; side = 1 }

abbrev pub lower_cut : {V : Type 0} → End V → Cut V
lower_cut Free = lowest
lower_cut (With a) = before a
lower_cut (Without a) = after a

abbrev pub upper_cut : {V : Type 0} → End V → Cut V
upper_cut Free = highest
upper_cut (With b) = after b
upper_cut (Without b) = before b

abbrev pub cut_cmp : {V : Type 0} → (V → V → Ordering) → Cut V → Cut V → Ordering
cut_cmp order c d = ordering_then (nat_cmp c.class d.class)
    (ordering_then (option_cmp order c.value d.value) (nat_cmp c.side d.side))

then_equal : (o : Ordering) → ordering_then o Equal ≡ o
then_equal Less = refl
then_equal Equal = refl
then_equal Greater = refl

pub lt_turned : (o p : Ordering) → o ≡ ordering_reverse p → is_lt o ≡ is_gt p
lt_turned o Less e = ap is_lt e
lt_turned o Equal e = ap is_lt e
lt_turned o Greater e = ap is_lt e

before_or_level : (o p : Ordering) → o ≡ ordering_reverse p → not (is_lt o) ≡ not (is_gt p)
before_or_level o p e = ap not (lt_turned o p e)

gt_then_before : (o : Ordering) → is_gt o ≡ is_gt (ordering_then o Less)
gt_then_before Less = refl
gt_then_before Equal = refl
gt_then_before Greater = refl

not_lt_then_after : (o : Ordering) → not (is_lt o) ≡ is_gt (ordering_then o Greater)
not_lt_then_after Less = refl
not_lt_then_after Equal = refl
not_lt_then_after Greater = refl

module _ {V : Type 0} {order : V → V → Ordering} (o : IsTotalOrder order) where
  pub cut_total : IsTotalOrder (cut_cmp order)
  cut_total = then_total (on_total (λ (c : Cut V). c.class) nat_cmp_total)
      (then_total (on_total (λ (c : Cut V). c.value) (options_total o))
      (on_total (λ (c : Cut V). c.side) nat_cmp_total))

  pub lower_is : (a b : End V) → lower_cmp order a b ≡ cut_cmp order (lower_cut a) (lower_cut b)
  lower_is Free Free = refl
  lower_is Free (With b) = refl
  lower_is Free (Without b) = refl
  lower_is (With a) Free = refl
  lower_is (With a) (With b) = sym (then_equal (order a b))
  lower_is (With a) (Without b) = refl
  lower_is (Without a) Free = refl
  lower_is (Without a) (With b) = refl
  lower_is (Without a) (Without b) = sym (then_equal (order a b))

  pub upper_is : (a b : End V) → upper_cmp order a b ≡ cut_cmp order (upper_cut a) (upper_cut b)
  upper_is Free Free = refl
  upper_is Free (With b) = refl
  upper_is Free (Without b) = refl
  upper_is (With a) Free = refl
  upper_is (With a) (With b) = sym (then_equal (order a b))
  upper_is (With a) (Without b) = refl
  upper_is (Without a) Free = refl
  upper_is (Without a) (With b) = refl
  upper_is (Without a) (Without b) = sym (then_equal (order a b))

  -- nothing is left exactly where the upper cut is not above the lower one
  pub nothing_is : (a b : End V) → leaves_nothing order a b ≡ not (is_gt (cut_cmp order (upper_cut b) (lower_cut a)))
  nothing_is Free Free = refl
  nothing_is Free (With b) = refl
  nothing_is Free (Without b) = refl
  nothing_is (With a) Free = refl
  nothing_is (With a) (With b) = with_with (order b a) (order a b) (o.antisymm a b)
    where
      with_with : (p q : Ordering) → q ≡ ordering_reverse p → is_gt q ≡ not (is_gt (ordering_then p Greater))
      with_with Less q e = ap is_gt e
      with_with Equal q e = ap is_gt e
      with_with Greater q e = ap is_gt e
  nothing_is (With a) (Without b) = before_or_level (order a b) (order b a) (o.antisymm a b)
      ∙ ap (λ p. not (is_gt p)) (sym (then_equal (order b a)))
  nothing_is (Without a) Free = refl
  nothing_is (Without a) (With b) = before_or_level (order a b) (order b a) (o.antisymm a b)
      ∙ ap (λ p. not (is_gt p)) (sym (then_equal (order b a)))
  nothing_is (Without a) (Without b) = before_or_level (order a b) (order b a) (o.antisymm a b)
      ∙ ap not (gt_then_before (order b a))

  -- a value is on the outer side of a lower end where that cut is after it or level
  pub before_is : (a : End V) (v : V) → is_before order a v ≡ is_gt (cut_cmp order (lower_cut a) (before v))
  before_is Free v = refl
  before_is (With a) v = lt_turned (order v a) (order a v) (o.antisymm v a) ∙ ap is_gt (sym (then_equal (order a v)))
  before_is (Without a) v = by (order a v) (order v a) (o.antisymm v a)
    where
      by : (p q : Ordering) → q ≡ ordering_reverse p → not (is_gt q) ≡ is_gt (ordering_then p Greater)
      by Less q e = ap (λ x. not (is_gt x)) e
      by Equal q e = ap (λ x. not (is_gt x)) e
      by Greater q e = ap (λ x. not (is_gt x)) e

  pub after_is : (b : End V) (v : V) → is_after order b v ≡ is_gt (cut_cmp order (after v) (upper_cut b))
  after_is Free v = refl
  after_is (With b) v = ap is_gt (sym (then_equal (order v b)))
  after_is (Without b) v = not_lt_then_after (order v b)

  lower_total : IsTotalOrder (lower_cmp order)
  lower_total = subst IsTotalOrder (λ i a b. sym (lower_is a b) i) (on_total lower_cut cut_total)

  upper_total : IsTotalOrder (upper_cmp order)
  upper_total = subst IsTotalOrder (λ i a b. sym (upper_is a b) i) (on_total upper_cut cut_total)

  pub ends_total : IsTotalOrder (ends_cmp order)
  ends_total = then_total (on_total (λ (i : Interval V). i.lower) lower_total)
      (on_total (λ (i : Interval V). i.upper) upper_total)

  -- the greater of two lower ends and the lesser of two upper ends, as cuts
  pub greater_cut : (a b : End V) → lower_cut (greater_lower order a b)
      ≡ (if is_lt (cut_cmp order (lower_cut a) (lower_cut b)) then lower_cut b else lower_cut a)
  greater_cut a b = pick (is_lt (lower_cmp order a b))
      ∙ ap (λ t. if is_lt t then lower_cut b else lower_cut a) (lower_is a b)
    where
      pick : (t : Bool) → lower_cut (if t then b else a) ≡ (if t then lower_cut b else lower_cut a)
      pick true = refl
      pick false = refl

  pub lesser_cut : (a b : End V) → upper_cut (lesser_upper order a b)
      ≡ (if is_gt (cut_cmp order (upper_cut a) (upper_cut b)) then upper_cut b else upper_cut a)
  lesser_cut a b = pick (is_gt (upper_cmp order a b)) ∙ ap (λ t. if is_gt t then upper_cut b else upper_cut a)
      (upper_is a b)
    where
      pick : (t : Bool) → upper_cut (if t then b else a) ≡ (if t then upper_cut b else upper_cut a)
      pick true = refl
      pick false = refl
