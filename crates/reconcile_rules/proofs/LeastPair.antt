-- The least pair of intervals that are apart, by the numbers of the requests.
use Rattle.std.proofs.Common.{◌≡◌, ℕ, zero, suc, ◌+◌, ◌≤◌, ◌<◌, Bool, true, false, List, [], ◌∷◌, Option, Some, None, refl, sym, ◌∙◌, ap, subst, arith, ◌⊎◌, inl, inr}
use Rattle.std.specs.Prelude.{slice_get}
use Rattle.std.proofs.lemmas.Bool.{cases_Bool, false≢true}
use Rattle.interval_sets.specs.declared.interval.Interval.{Interval}
use Rattle.interval_sets.specs.Intervals.{are_apart}
use Rattle.version_order.specs.declared.constraint.Constraint.{Constraint}
use Rattle.version_order.specs.declared.constraint.Constraint.TheVariants.{Any, Plain, Within}
use Rattle.version_order.specs.Ranks.{items_cmp}
use Rattle.reconcile_rules.specs.declared.request.Clash.{Clash}
use Rattle.reconcile_rules.specs.declared.request.Clash.TheVariants.{Apart}
use Rattle.reconcile_rules.specs.Asked.{intervals_from, intervals}
use Rattle.reconcile_rules.specs.Apart.{first_apart, or_later, least_apart}
use Rattle.reconcile_rules.specs.Pairs.{AsksWithin, IsLeastPair}

none_some : {A : Type 0} {x : A} → None ≡ Some x → ⊥
none_some e = cc

within_injective : (a b : Interval (List ℕ)) → Some (Some (Within a)) ≡ Some (Some (Within b)) → a ≡ b
within_injective a b e = cc

not_any : (a : Interval (List ℕ)) → Some (Some Any) ≡ Some (Some (Within a)) → ⊥
not_any a e = cc

not_plain : (v : List ℕ) (a : Interval (List ℕ)) → Some (Some (Plain v)) ≡ Some (Some (Within a)) → ⊥
not_plain v a e = cc

not_bad : (a : Interval (List ℕ)) → Some None ≡ Some (Some (Within a)) → ⊥
not_bad a e = cc

-- ---- the first partner of one interval

-- the least number at which the requests ask within an interval that is apart from this one
record IsFirstPartner (i : Interval (List ℕ)) (read : List (Option Constraint)) (number : ℕ) : Type 0 where
  pub other : Interval (List ℕ)
  pub asks : AsksWithin read number other
  pub apart : are_apart items_cmp i other ≡ true
  pub least : (j : ℕ) (b : Interval (List ℕ)) → AsksWithin read j b → are_apart items_cmp i b ≡ true → number ≤ j

abbrev NoPartner : Interval (List ℕ) → List (Option Constraint) → Type 0
NoPartner i read = (j : ℕ) (b : Interval (List ℕ)) → AsksWithin read j b → are_apart items_cmp i b ≡ true → ⊥

abbrev Partner : ℕ → Interval (List ℕ) → List (Option Constraint) → Option ℕ → Type 0
Partner n i read None = NoPartner i read
Partner n i read (Some m) = (k : ℕ) × (m ≡ n + k) × IsFirstPartner i read k

-- one request more, of which no interval is a partner
partner_on : (n : ℕ) (i : Interval (List ℕ)) (c : Option Constraint) (read : List (Option Constraint)) (o : Option ℕ)
    → ((b : Interval (List ℕ)) → Some c ≡ Some (Some (Within b)) → are_apart items_cmp i b ≡ true → ⊥) → Partner (n + 1) i read o → Partner n i (c ∷ read) o
partner_on n i c read None here none = by
  where
    by : NoPartner i (c ∷ read)
    by zero b at apart = here b at apart
    by (suc j) b at apart = none j b at apart
partner_on n i c read (Some m) here (k, is, first) =
    (suc k, is ∙ omega arith, record { other = first.other; asks = first.asks; apart = first.apart; least = least })
  where
    least : (j : ℕ) (b : Interval (List ℕ)) → AsksWithin (c ∷ read) j b → are_apart items_cmp i b ≡ true → suc k ≤ j
    least zero b at apart = absurd (here b at apart)
    least (suc j) b at apart = omega (arith, first.least j b at apart)

partner : (n : ℕ) (i : Interval (List ℕ)) (read : List (Option Constraint))
    → Partner n i read (first_apart i (intervals_from n read))
partner n i [] = λ j b at apart. none_some at
partner n i (None ∷ read) =
    partner_on n i None read (first_apart i (intervals_from (n + 1) read)) (λ b e apart. not_bad b e)
    (partner (n + 1) i read)
partner n i (Some Any ∷ read) =
    partner_on n i (Some Any) read (first_apart i (intervals_from (n + 1) read)) (λ b e apart. not_any b e)
    (partner (n + 1) i read)
partner n i (Some (Plain v) ∷ read) =
    partner_on n i (Some (Plain v)) read (first_apart i (intervals_from (n + 1) read)) (λ b e apart. not_plain v b e)
    (partner (n + 1) i read)
partner n i (Some (Within a) ∷ read) = by (cases_Bool (are_apart items_cmp i a)) (partner (n + 1) i read)
  where
    by : (are_apart items_cmp i a ≡ true) ⊎ (are_apart items_cmp i a ≡ false)
        → Partner (n + 1) i read (first_apart i (intervals_from (n + 1) read))
        → Partner n i (Some (Within a) ∷ read) (first_apart i (intervals_from n (Some (Within a) ∷ read)))
    by (inl so) others =
        let found : first_apart i (intervals_from n (Some (Within a) ∷ read)) ≡ Some n = rw so refl in
        subst (Partner n i (Some (Within a) ∷ read)) (sym found)
        (0, omega arith, record { other = a; asks = refl; apart = so; least = λ j b at apart. omega arith })
    by (inr isnt) others =
        let on : first_apart i (intervals_from n (Some (Within a) ∷ read)) ≡ first_apart i (intervals_from (n + 1) read) = rw isnt refl in
        subst (Partner n i (Some (Within a) ∷ read)) (sym on)
        (partner_on n i (Some (Within a)) read (first_apart i (intervals_from (n + 1) read)) (λ b e apart. false≢true (sym isnt ∙ ap (are_apart items_cmp i) (within_injective a b e) ∙ apart)) others)

-- ---- the least pair

abbrev NoPair : List (Option Constraint) → Type 0
NoPair read =
    (i j : ℕ) (a b : Interval (List ℕ)) → AsksWithin read i a → AsksWithin read j b → i ≤ j → are_apart items_cmp a b ≡ true → ⊥

abbrev Pair : ℕ → List (Option Constraint) → Option Clash → Type 0
Pair n read None = NoPair read
Pair n read (Some c) = (i : ℕ) × (j : ℕ) × (c ≡ Apart (n + i) (n + j)) × IsLeastPair read i j

-- one request more, which has no partner
pair_on : (n : ℕ) (c : Option Constraint) (read : List (Option Constraint)) (o : Option Clash)
    → ((a : Interval (List ℕ)) → Some c ≡ Some (Some (Within a)) → NoPartner a (c ∷ read)) → Pair (n + 1) read o → Pair n (c ∷ read) o
pair_on n c read None here none = by
  where
    by : NoPair (c ∷ read)
    by zero j a b at_i at_j le apart = here a at_i j b at_j apart
    by (suc i) zero a b at_i at_j le apart = omega (arith, le)
    by (suc i) (suc j) a b at_i at_j le apart = none i j a b at_i at_j (omega (arith, le)) apart
pair_on n c read (Some clash) here (i, j, is, two) =
    let first : n + 1 + i ≡ n + suc i = omega arith in
    let second : n + 1 + j ≡ n + suc j = omega arith in (
      suc i,
      suc j,
      is ∙ ap (λ k. Apart k (n + 1 + j)) first ∙ ap (λ k. Apart (n + suc i) k) second,
      record { one = two.one; other = two.other; asks_one = two.asks_one; asks_other = two.asks_other; in_order = omega (arith, two.in_order); apart = two.apart; least = least },
    )
  where
    on : (k l : ℕ) → (i < k) ⊎ ((i ≡ k) × (j ≤ l)) → (suc i < suc k) ⊎ ((suc i ≡ suc k) × (suc j ≤ suc l))
    on k l (inl lt) = inl (omega (arith, lt))
    on k l (inr (same, le)) = inr (ap suc same, omega (arith, le))

    least : (k l : ℕ) (a b : Interval (List ℕ)) → AsksWithin (c ∷ read) k a → AsksWithin (c ∷ read) l b → k ≤ l
        → are_apart items_cmp a b ≡ true
        → (suc i < k) ⊎ ((suc i ≡ k) × (suc j ≤ l))
    least zero l a b at_k at_l le apart = absurd (here a at_k l b at_l apart)
    least (suc k) zero a b at_k at_l le apart = absurd (omega (arith, le))
    least (suc k) (suc l) a b at_k at_l le apart = on k l (two.least k l a b at_k at_l (omega (arith, le)) apart)

pair : (n : ℕ) (read : List (Option Constraint)) → Pair n read (least_apart (intervals_from n read))
pair n [] = λ i j a b at_i at_j le apart. none_some at_i
pair n (None ∷ read) =
    pair_on n None read (least_apart (intervals_from (n + 1) read)) (λ a e j b at apart. not_bad a e)
    (pair (n + 1) read)
pair n (Some Any ∷ read) =
    pair_on n (Some Any) read (least_apart (intervals_from (n + 1) read)) (λ a e j b at apart. not_any a e)
    (pair (n + 1) read)
pair n (Some (Plain v) ∷ read) =
    pair_on n (Some (Plain v)) read (least_apart (intervals_from (n + 1) read)) (λ a e j b at apart. not_plain v a e)
    (pair (n + 1) read)
pair n (Some (Within x) ∷ read) =
    by (first_apart x (intervals_from n (Some (Within x) ∷ read))) refl (partner n x (Some (Within x) ∷ read))
    (pair (n + 1) read)
  where
    by : (o : Option ℕ) → first_apart x (intervals_from n (Some (Within x) ∷ read)) ≡ o
        → Partner n x (Some (Within x) ∷ read) (first_apart x (intervals_from n (Some (Within x) ∷ read)))
        → Pair (n + 1) read (least_apart (intervals_from (n + 1) read)) → Pair n (Some (Within x) ∷ read) (least_apart (intervals_from n (Some (Within x) ∷ read)))
    by None e found others =
        let on : least_apart (intervals_from n (Some (Within x) ∷ read)) ≡ least_apart (intervals_from (n + 1) read) = ap (λ (o : Option ℕ). or_later n o (least_apart (intervals_from (n + 1) read))) e in
        let none : NoPartner x (Some (Within x) ∷ read) = subst (Partner n x (Some (Within x) ∷ read)) e found in
        subst (Pair n (Some (Within x) ∷ read)) (sym on)
        (pair_on n (Some (Within x)) read (least_apart (intervals_from (n + 1) read)) (λ a same. subst (λ y. NoPartner y (Some (Within x) ∷ read)) (within_injective x a same) none) others)
    by (Some m) e found others =
        let on : least_apart (intervals_from n (Some (Within x) ∷ read)) ≡ Some (Apart n m) = ap (λ (o : Option ℕ). or_later n o (least_apart (intervals_from (n + 1) read))) e in
        subst (Pair n (Some (Within x) ∷ read)) (sym on) (first (subst (Partner n x (Some (Within x) ∷ read)) e found))
      where
        first : (k : ℕ) × (m ≡ n + k) × IsFirstPartner x (Some (Within x) ∷ read) k
            → Pair n (Some (Within x) ∷ read) (Some (Apart n m))
        first (k, is, partner_is) =
            let none : n ≡ n + 0 = omega arith in (
              0,
              k,
              ap (λ a. Apart a m) none ∙ ap (λ b. Apart (n + 0) b) is,
              record { one = x; other = partner_is.other; asks_one = refl; asks_other = partner_is.asks; in_order = omega arith; apart = partner_is.apart; least = least },
            )
          where
            least : (i j : ℕ) (a b : Interval (List ℕ)) → AsksWithin (Some (Within x) ∷ read) i a
                → AsksWithin (Some (Within x) ∷ read) j b → i ≤ j → are_apart items_cmp a b ≡ true
                → (0 < i) ⊎ ((0 ≡ i) × (k ≤ j))
            least zero j a b at_i at_j le apart =
                inr
                (refl, partner_is.least j b at_j (ap (λ y. are_apart items_cmp y b) (within_injective x a at_i) ∙ apart))
            least (suc i) j a b at_i at_j le apart = inl (omega arith)

pub least_pair : (read : List (Option Constraint)) (first second : ℕ)
    → least_apart (intervals read) ≡ Some (Apart first second) → IsLeastPair read first second
least_pair read first second e = by (subst (Pair 0 read) e (pair 0 read))
  where
    by : Pair 0 read (Some (Apart first second)) → IsLeastPair read first second
    by (i, j, is, two) =
        let one : i ≡ first = firsts is in
        let other : j ≡ second = seconds is in
        subst (λ k. IsLeastPair read k second) one (subst (λ k. IsLeastPair read i k) other two)
      where
        firsts : Apart first second ≡ Apart (0 + i) (0 + j) → i ≡ first
        firsts e = let same : first ≡ 0 + i = cc in omega (arith, same)

        seconds : Apart first second ≡ Apart (0 + i) (0 + j) → j ≡ second
        seconds e = let same : second ≡ 0 + j = cc in omega (arith, same)
