-- The least pair that is apart is there exactly where some two are apart.
use Rattle.std.proofs.Common.{◌≡◌, ◌↔◌, ℕ, zero, suc, ◌≤◌, true, false, List, [], ◌∷◌, map, Option, Some, None, refl, sym, ◌∙◌, ap, subst, arith, ◌⊎◌, inl, inr}
use Rattle.std.specs.Prelude.{slice_get}
use Rattle.std.proofs.lemmas.Bool.{cases_Bool, false≢true}
use Rattle.interval_sets.specs.declared.interval.Interval.{Interval}
use Rattle.interval_sets.specs.Intervals.{is_empty, are_apart}
use Rattle.interval_sets.specs.Many.{SomeTwoApart, common}
use Rattle.version_order.specs.Ranks.{items_cmp}
use Rattle.reconcile_rules.specs.declared.request.IntervalRequest.{IntervalRequest}
use Rattle.reconcile_rules.specs.declared.request.Clash.{Clash}
use Rattle.reconcile_rules.specs.Apart.{common_of, is_apart_from, first_apart, or_later, least_apart}

abbrev pub spans : List IntervalRequest → List (Interval (List ℕ))
spans asked = map (λ r. r.interval) asked

none_some : {A : Type 0} {x : A} → None ≡ Some x → ⊥
none_some e = cc

later_none : (n : ℕ) (second : Option ℕ) (later : Option Clash) → or_later n second later ≡ None
    → (second ≡ None) × (later ≡ None)
later_none n (Some k) later e = absurd (none_some (sym e))
later_none n None later e = (refl, e)

-- where no partner is found, none is apart
not_apart : (i : Interval (List ℕ)) (xs : List IntervalRequest) → first_apart i xs ≡ None
    → (k : ℕ) (b : Interval (List ℕ)) → slice_get (spans xs) k ≡ Some b → are_apart items_cmp i b ≡ false
not_apart i [] e k b at = absurd (none_some at)
not_apart i (x ∷ xs) e k b at = by (cases_Bool (is_apart_from i x)) (not_apart i xs) k at
  where
    rest : is_apart_from i x ≡ false → first_apart i xs ≡ None
    rest f = sym (rw f refl) ∙ e

    by : (is_apart_from i x ≡ true) ⊎ (is_apart_from i x ≡ false)
        →
        (first_apart i xs ≡ None → (k : ℕ) (b : Interval (List ℕ)) → slice_get (spans xs) k ≡ Some b → are_apart items_cmp i b ≡ false)
        → (k : ℕ) → slice_get (spans (x ∷ xs)) k ≡ Some b → are_apart items_cmp i b ≡ false
    by (inl t) others k at =
        let found : first_apart i (x ∷ xs) ≡ Some x.number = rw t refl in absurd (none_some (sym e ∙ found))
    by (inr f) others zero at = let same : x.interval ≡ b = cc in subst (λ j. are_apart items_cmp i j ≡ false) same f
    by (inr f) others (suc k) at = others (rest f) k b at

none_apart : (xs : List IntervalRequest) → least_apart xs ≡ None → (k j : ℕ) → k ≤ j → (a b : Interval (List ℕ))
    → slice_get (spans xs) k ≡ Some a → slice_get (spans xs) j ≡ Some b → are_apart items_cmp a b ≡ false
none_apart [] e k j le a b at_k at_j = absurd (none_some at_k)
none_apart (x ∷ xs) e zero j le a b at_k at_j =
    let parts = later_none x.number (first_apart x.interval (x ∷ xs)) (least_apart xs) e in
    let same : x.interval ≡ a = cc in
    subst (λ i. are_apart items_cmp i b ≡ false) same (not_apart x.interval (x ∷ xs) parts.0 j b at_j)
none_apart (x ∷ xs) e (suc k) zero le a b at_k at_j = absurd (omega (arith, le))
none_apart (x ∷ xs) e (suc k) (suc j) le a b at_k at_j =
    none_apart xs (later_none x.number (first_apart x.interval (x ∷ xs)) (least_apart xs) e).1 k j
    (omega (arith, le)) a b at_k at_j

-- where a partner is found, one is apart
partner : (i : Interval (List ℕ)) (xs : List IntervalRequest) (n : ℕ) → first_apart i xs ≡ Some n
    → (k : ℕ) × (b : Interval (List ℕ)) × (slice_get (spans xs) k ≡ Some b) × (are_apart items_cmp i b ≡ true)
partner i [] n e = absurd (none_some e)
partner i (x ∷ xs) n e = by (cases_Bool (is_apart_from i x)) (partner i xs n)
  where
    further : (k : ℕ) × (b : Interval (List ℕ)) × (slice_get (spans xs) k ≡ Some b) × (are_apart items_cmp i b ≡ true)
        → (k : ℕ) × (b : Interval (List ℕ)) × (slice_get (spans (x ∷ xs)) k ≡ Some b) × (are_apart items_cmp i b ≡ true)
    further (k, b, at, apart) = (suc k, b, at, apart)

    by : (is_apart_from i x ≡ true) ⊎ (is_apart_from i x ≡ false)
        →
        (first_apart i xs ≡ Some n → (k : ℕ) × (b : Interval (List ℕ)) × (slice_get (spans xs) k ≡ Some b) × (are_apart items_cmp i b ≡ true))
        → (k : ℕ) × (b : Interval (List ℕ)) × (slice_get (spans (x ∷ xs)) k ≡ Some b) × (are_apart items_cmp i b ≡ true)
    by (inl t) others = (0, x.interval, refl, t)
    by (inr f) others = further (others (sym (rw f refl) ∙ e))

some_apart : (xs : List IntervalRequest) (c : Clash) → least_apart xs ≡ Some c → SomeTwoApart items_cmp (spans xs)
some_apart [] c e = absurd (none_some e)
some_apart (x ∷ xs) c e = by (first_apart x.interval (x ∷ xs)) refl (some_apart xs c)
  where
    here : (k : ℕ) × (b : Interval (List ℕ)) × (slice_get (spans (x ∷ xs)) k ≡ Some b) × (are_apart items_cmp x.interval b ≡ true)
        → SomeTwoApart items_cmp (spans (x ∷ xs))
    here (k, b, at, apart) =
        record { place = 0; later = k; in_order = omega arith; first = x.interval; second = b; has_first = refl; has_second = at; apart = apart }

    further : SomeTwoApart items_cmp (spans xs) → SomeTwoApart items_cmp (spans (x ∷ xs))
    further two =
        record { place = suc two.place; later = suc two.later; in_order = omega (arith, two.in_order); first = two.first; second = two.second; has_first = two.has_first; has_second = two.has_second; apart = two.apart }

    by : (o : Option ℕ) → first_apart x.interval (x ∷ xs) ≡ o
        → (least_apart xs ≡ Some c → SomeTwoApart items_cmp (spans xs)) → SomeTwoApart items_cmp (spans (x ∷ xs))
    by (Some n) f others = here (partner x.interval (x ∷ xs) n f)
    by None f others = further (others (sym (ap (λ o. or_later x.number o (least_apart xs)) f) ∙ e))

module _ (law : (is : List (Interval (List ℕ))) → (is_empty items_cmp (common items_cmp is) ≡ true) ↔ SomeTwoApart items_cmp is) where
  pub nothing_in_common : (xs : List IntervalRequest) → is_empty items_cmp (common_of xs) ≡ true
      → least_apart xs ≡ None → ⊥
  nothing_in_common xs nothing none =
      let two = (law (spans xs)).0 nothing in
      false≢true
      (sym (none_apart xs none two.place two.later two.in_order two.first two.second two.has_first two.has_second) ∙ two.apart)

  pub something_in_common : (xs : List IntervalRequest) → is_empty items_cmp (common_of xs) ≡ false
      → least_apart xs ≡ None
  something_in_common xs some = by (least_apart xs) refl
    where
      by : (o : Option Clash) → least_apart xs ≡ o → least_apart xs ≡ None
      by None e = e
      by (Some c) e = absurd (false≢true (sym some ∙ (law (spans xs)).1 (some_apart xs c e)))

  pub apart_exactly : (xs : List IntervalRequest)
      → (least_apart xs ≡ None) ↔ (is_empty items_cmp (common_of xs) ≡ false)
  apart_exactly xs = (λ none. by none (cases_Bool (is_empty items_cmp (common_of xs))), something_in_common xs)
    where
      by : least_apart xs ≡ None
          → (is_empty items_cmp (common_of xs) ≡ true) ⊎ (is_empty items_cmp (common_of xs) ≡ false)
          → is_empty items_cmp (common_of xs) ≡ false
      by none (inl nothing) = absurd (nothing_in_common xs nothing none)
      by none (inr some) = some
