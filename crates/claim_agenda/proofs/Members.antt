-- Members of lists that are joined, filtered and flattened, and lists with the same members.
use Rattle.std.proofs.Common.{◌≡◌, ℕ, zero, suc, ◌<◌, arith, inl, inr, Bool, true, false, cond, ◌&&◌, List, [], ◌∷◌, filter, length, get_or, refl, sym, ◌∙◌, ap, true≢false}
use Rattle.std.specs.List.{list_all}
use Rattle.std.specs.Prelude.{Contains}
use Rattle.res_base.specs.Members.{Among}

module _ {A : Type 0} where
  pub among_at : (xs : List A) (k : ℕ) (d x : A) → k < length xs → get_or xs k d ≡ x → Among x xs
  among_at [] k d x within is = absurd (omega (arith, within))
  among_at (y ∷ ys) zero d x within is = inl (sym is)
  among_at (y ∷ ys) (suc k) d x within is = inr (among_at ys k d x (omega (arith, within)) is)

  pub record Place (xs : List A) (x : A) : Type 0 where
    pub at : ℕ
    pub within : at < length xs
    pub is : (d : A) → get_or xs at d ≡ x

  pub place_of : (xs : List A) (x : A) → Among x xs → Place xs x
  place_of [] x m = absurd m
  place_of (y ∷ ys) x (inl is) = record { at = 0; within = omega arith; is = λ d. sym is }
  place_of (y ∷ ys) x (inr m) =
      let later = place_of ys x m in
      let inside : suc later.at < length (y ∷ ys) = omega (arith, later.within) in
      record { at = suc later.at; within = inside; is = λ d. later.is d }

  pub to_contains : (xs : List A) (x : A) → Among x xs → Contains xs x
  to_contains xs x m = let p = place_of xs x m in (p.at, p.within, p.is x)

  pub from_contains : (xs : List A) (x : A) → Contains xs x → Among x xs
  from_contains xs x c = among_at xs c.0 x x c.1 c.2

  -- a member that passes
  pub record Passed (test : A → Bool) (x : A) (xs : List A) : Type 0 where
    pub member : Among x xs
    pub is : test x ≡ true

  further : (test : A → Bool) (x y : A) (xs : List A) → Passed test x xs → Passed test x (y ∷ xs)
  further test x y xs p = record { member = inr p.member; is = p.is }

  pub passed : (test : A → Bool) (x : A) (xs : List A) → Among x (filter test xs) → Passed test x xs
  passed test x [] m = absurd m
  passed test x (y ∷ ys) m = by (test y) refl (passed test x ys) m
    where
      by : (b : Bool) → test y ≡ b → (Among x (filter test ys) → Passed test x ys)
          → Among x (cond b (y ∷ filter test ys) (filter test ys)) → Passed test x (y ∷ ys)
      by true e later (inl same) = record { member = inl same; is = ap test same ∙ e }
      by true e later (inr k) = further test x y ys (later k)
      by false e later k = further test x y ys (later k)

  pub passes : (test : A → Bool) (x : A) (xs : List A) → test x ≡ true → Among x xs → Among x (filter test xs)
  passes test x [] e m = absurd m
  passes test x (y ∷ ys) e (inl same) = rw (sym (ap test same) ∙ e) (inl same)
  passes test x (y ∷ ys) e (inr m) = by (test y) (passes test x ys e m)
    where
      by : (b : Bool) → Among x (filter test ys) → Among x (cond b (y ∷ filter test ys) (filter test ys))
      by true k = inr k
      by false k = k

  pub all_pass : (test : A → Bool) (xs : List A) → ((x : A) → Among x xs → test x ≡ true) → list_all test xs ≡ true
  all_pass test [] each = refl
  all_pass test (y ∷ ys) each = rw (each y (inl refl)) (all_pass test ys (λ x m. each x (inr m)))

  pub each_passes : (test : A → Bool) (xs : List A) → list_all test xs ≡ true → (x : A) → Among x xs → test x ≡ true
  each_passes test [] all x m = absurd m
  each_passes test (y ∷ ys) all x m = by (test y) refl all m (λ rest k. each_passes test ys rest x k)
    where
      by : (b : Bool) → test y ≡ b → (b && list_all test ys) ≡ true → Among x (y ∷ ys)
          → (list_all test ys ≡ true → Among x ys → test x ≡ true) → test x ≡ true
      by true e rest (inl is) later = ap test is ∙ e
      by true e rest (inr k) later = later rest k
      by false e rest k later = absurd (true≢false (sym rest))

  pub no_members : (xs : List A) → ((x : A) → Among x xs → ⊥) → xs ≡ []
  no_members [] none = refl
  no_members (x ∷ xs) none = absurd (none x (inl refl))
