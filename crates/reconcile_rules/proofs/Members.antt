-- An element of a list is at some place of it.
use Rattle.std.proofs.Common.{◌≡◌, ℕ, zero, suc, ◌<◌, List, [], ◌∷◌, map, length, get_or, Some, None, ap, arith, sym, ◌∙◌, refl}
use Rattle.std.specs.Prelude.{slice_get, Contains, filter, if◌then◌else◌, Bool, true, false}

pub at_some_place : {X : Type 0} (xs : List X) (x : X) → Contains xs x → (k : ℕ) × (slice_get xs k ≡ Some x)
at_some_place [] x (k, lt, e) = absurd (omega (arith, lt))
at_some_place (y ∷ ys) x (zero, lt, e) = (zero, ap Some e)
at_some_place (y ∷ ys) x (suc k, lt, e) = later (at_some_place ys x (k, omega (arith, lt), e))
  where
    later : (k : ℕ) × (slice_get ys k ≡ Some x) → (k : ℕ) × (slice_get (y ∷ ys) k ≡ Some x)
    later (k, at) = (suc k, at)

pub first_member : {X : Type 0} (x : X) (xs : List X) → Contains (x ∷ xs) x
first_member x xs = (0, omega arith, refl)

pub later_member : {X : Type 0} (y : X) (xs : List X) (x : X) → Contains xs x → Contains (y ∷ xs) x
later_member y xs x (k, lt, e) = (suc k, omega (arith, lt), e)

-- what is in the kept part of a list is in the list
pub member_of_filter : {X : Type 0} (test : X → Bool) (xs : List X) (x : X) → Contains (filter test xs) x
    → Contains xs x
member_of_filter test [] x c = c
member_of_filter test (y ∷ ys) x c = by (test y) c (member_of_filter test ys x)
  where
    head : Contains (y ∷ filter test ys) x → (Contains (filter test ys) x → Contains ys x) → Contains (y ∷ ys) x
    head (zero, lt, e) others = (0, omega arith, e)
    head (suc k, lt, e) others = later_member y ys x (others (k, omega (arith, lt), e))

    by : (t : Bool) → Contains (if t then y ∷ filter test ys else filter test ys) x
        → (Contains (filter test ys) x → Contains ys x) → Contains (y ∷ ys) x
    by true d others = head d others
    by false d others = later_member y ys x (others d)
