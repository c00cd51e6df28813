-- Distinct keys that all stand in a list are no more than it has.
use Rattle.std.specs.Prelude.{◌≡◌, ℕ, zero, suc, ◌+◌, ◌≤◌, Bool, true, false, cond, not, ◌||◌, List, [], ◌∷◌, length}
use Rattle.std.proofs.Common.{refl, sym, ◌∙◌, ap, subst, arith}
use Rattle.std.specs.List.{list_any}
use Rattle.live_walk.specs.Graphs.{In, here, there}

module _ {K : Type 0} (same : K → K → Bool) (decides : (k l : K) → same k l ≡ true → k ≡ l) (itself : (k : K)
    → same k k ≡ true) where
  pub data Distinct : List K → Type 0 where
    none : Distinct []
    one_more : {k : K} {ks : List K} → list_any (same k) ks ≡ false → Distinct ks → Distinct (k ∷ ks)

  without : K → List K → List K
  without k [] = []
  without k (r ∷ rows) = cond (same k r) rows (r ∷ without k rows)

  length-without : (k : K) (rows : List K) → list_any (same k) rows ≡ true → suc (length (without k rows)) ≤ length rows
  unfolding without
  length-without k [] h = absurd (cc)
  length-without k (r ∷ rows) h = by (λ e. length-without k rows e) (same k r) refl
    where
      by : (list_any (same k) rows ≡ true → suc (length (without k rows)) ≤ length rows) → (t : Bool) → same k r ≡ t
          → suc (length (cond (same k r) rows (r ∷ without k rows))) ≤ length (r ∷ rows)
      by more true e = rw e (omega arith)
      by more false e = let m : suc (length (without k rows)) ≤ length rows = more (rw e at h) in rw e (omega arith)

  still_there : (j k : K) (rows : List K) → same j k ≡ false → list_any (same j) rows ≡ true
      → list_any (same j) (without k rows) ≡ true
  unfolding without
  still_there j k [] n h = h
  still_there j k (r ∷ rows) n h = by (λ e. still_there j k rows n e) (same k r) (same j r) refl refl
    where
      by : (list_any (same j) rows ≡ true → list_any (same j) (without k rows) ≡ true) → (t u : Bool) → same k r ≡ t
          → same j r ≡ u → list_any (same j) (cond (same k r) rows (r ∷ without k rows)) ≡ true
      by more true true e d = absurd (let q : k ≡ r = decides k r e in let p : same j k ≡ true = rw q d in cc)
      by more true false e d = rw e (rw d at h)
      by more false true e d = rw (e, d)
      by more false false e d = rw (e, d, more (rw d at h))

  or_false : (s t : Bool) → (s || t) ≡ false → (s ≡ false) × (t ≡ false)
  or_false true t h = absurd (cc)
  or_false false t h = (refl, h)

  apart_from : {j : K} {ks : List K} → In j ks → (k : K) → list_any (same k) ks ≡ false → same k j ≡ false
  apart_from (here {xs}) k h = (or_false (same k _) (list_any (same k) xs) h).0
  apart_from (there {y} {xs} m) k h = apart_from m k (or_false (same k y) (list_any (same k) xs) h).1

  other_way : (j k : K) → same k j ≡ false → same j k ≡ false
  other_way j k h = by (same j k) refl
    where
      by : (t : Bool) → same j k ≡ t → same j k ≡ false
      by false e = e
      by true e = absurd (let q : j ≡ k = decides j k e in let p : same k j ≡ true = rw q (itself k) in cc)

  pub no_more : {ks : List K} → Distinct ks → (rows : List K) → ((k : K) → In k ks → list_any (same k) rows ≡ true)
      → length ks ≤ length rows
  no_more none rows h = omega arith
  no_more (one_more {k} {ks} d ds) rows h =
      let shorter : suc (length (without k rows)) ≤ length rows = length-without k rows (h k here) in
      let rest : length ks ≤ length (without k rows) =
      no_more ds (without k rows)
      (λ j m. still_there j k rows (other_way j k (apart_from m k d)) (h j (there m))) in
      omega arith
