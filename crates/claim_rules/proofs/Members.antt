-- Members of lists that are joined, filtered, flattened and tested.
use Rattle.std.proofs.Common.{◌≡◌, ◌⊎◌, inl, inr, Bool, true, false, cond, List, [], ◌∷◌, ◌++◌, filter, ◌&&◌, ◌||◌, refl, sym, ◌∙◌, ap, subst, true≢false}
use Rattle.std.specs.List.{flat_map, list_all, list_any}
use Rattle.std.proofs.lemmas.Bool.{and_parts, and_from}
use Rattle.res_base.specs.Members.{Among}

module _ {A : Type 0} where
  pub in_front : (x : A) (xs ys : List A) → Among x xs → Among x (xs ++ ys)
  in_front x [] ys m = absurd m
  in_front x (y ∷ xs) ys (inl is) = inl is
  in_front x (y ∷ xs) ys (inr m) = inr (in_front x xs ys m)

  pub in_back : (x : A) (xs ys : List A) → Among x ys → Among x (xs ++ ys)
  in_back x [] ys m = m
  in_back x (y ∷ xs) ys m = inr (in_back x xs ys m)

  pub in_either : (x : A) (xs ys : List A) → Among x (xs ++ ys) → Among x xs ⊎ Among x ys
  in_either x [] ys m = inr m
  in_either x (y ∷ xs) ys (inl is) = inl (inl is)
  in_either x (y ∷ xs) ys (inr m) = elim (in_either x xs ys m) [ inl k ↦ inl (inr k) | inr k ↦ inr k ]

  -- a member, and what a test says of it
  pub record Tested (test : A → Bool) (b : Bool) (x : A) (xs : List A) : Type 0 where
    pub member : Among x xs
    pub is : test x ≡ b

  further : (test : A → Bool) (b : Bool) (x y : A) (xs : List A) → Tested test b x xs → Tested test b x (y ∷ xs)
  further test b x y xs t = record { member = inr t.member; is = t.is }

  -- a member of what passes
  pub passed : (test : A → Bool) (x : A) (xs : List A) → Among x (filter test xs) → Tested test true x xs
  passed test x [] m = absurd m
  passed test x (y ∷ ys) m = by (test y) refl (passed test x ys) m
    where
      by : (b : Bool) → test y ≡ b → (Among x (filter test ys) → Tested test true x ys)
          → Among x (cond b (y ∷ filter test ys) (filter test ys)) → Tested test true x (y ∷ ys)
      by true e later (inl same) = record { member = inl same; is = ap test same ∙ e }
      by true e later (inr k) = further test true x y ys (later k)
      by false e later k = further test true x y ys (later k)

  pub passes : (test : A → Bool) (x : A) (xs : List A) → test x ≡ true → Among x xs → Among x (filter test xs)
  passes test x [] e m = absurd m
  passes test x (y ∷ ys) e (inl same) = rw (sym (ap test same) ∙ e) (inl same)
  passes test x (y ∷ ys) e (inr m) = by (test y) (passes test x ys e m)
    where
      by : (b : Bool) → Among x (filter test ys) → Among x (cond b (y ∷ filter test ys) (filter test ys))
      by true k = inr k
      by false k = k

  pub any_by : (test : A → Bool) (x : A) (xs : List A) → Among x xs → test x ≡ true → list_any test xs ≡ true
  any_by test x [] m e = absurd m
  any_by test x (y ∷ xs) (inl same) e = rw (sym (ap test same) ∙ e) refl
  any_by test x (y ∷ xs) (inr m) e = by (test y) (any_by test x xs m e)
    where
      by : (b : Bool) → list_any test xs ≡ true → (b || list_any test xs) ≡ true
      by true k = refl
      by false k = k

  pub some_passes : (test : A → Bool) (xs : List A) → list_any test xs ≡ true → (x : A) × (test x ≡ true)
  some_passes test [] e = absurd (true≢false (sym e))
  some_passes test (x ∷ xs) e = by (test x) refl (some_passes test xs) e
    where
      by : (b : Bool) → test x ≡ b → (list_any test xs ≡ true → (y : A) × (test y ≡ true))
          → (b || list_any test xs) ≡ true
          → (y : A) × (test y ≡ true)
      by true is later k = (x, is)
      by false is later k = later k

  pub each_passes : (test : A → Bool) (xs : List A) → list_all test xs ≡ true → (x : A) → Among x xs → test x ≡ true
  each_passes test [] e x m = absurd m
  each_passes test (y ∷ xs) e x (inl same) = ap test same ∙ (and_parts (test y) (list_all test xs) e).0
  each_passes test (y ∷ xs) e x (inr m) = each_passes test xs (and_parts (test y) (list_all test xs) e).1 x m

  pub all_pass : (test : A → Bool) (xs : List A) → ((x : A) → Among x xs → test x ≡ true) → list_all test xs ≡ true
  all_pass test [] each = refl
  all_pass test (x ∷ xs) each =
      and_from (test x) (list_all test xs) (each x (inl refl)) (all_pass test xs (λ y m. each y (inr m)))

  -- where not all pass, some member does not
  pub some_fails : (test : A → Bool) (xs : List A) → list_all test xs ≡ false → (x : A) × Tested test false x xs
  some_fails test [] e = absurd (true≢false e)
  some_fails test (x ∷ xs) e = by (test x) refl (some_fails test xs) e
    where
      by : (b : Bool) → test x ≡ b → (list_all test xs ≡ false → (y : A) × Tested test false y xs)
          → (b && list_all test xs) ≡ false → (y : A) × Tested test false y (x ∷ xs)
      by true is later k = let t = later k in (t.0, further test false t.0 x xs t.1)
      by false is later k = (x, record { member = inl refl; is = is })

module _ {A B : Type 0} (f : A → List B) where
  -- a member of what a member gives
  pub record GivenBy (y : B) (xs : List A) : Type 0 where
    pub source : A
    pub member : Among source xs
    pub gives : Among y (f source)

  pub given_by : (y : B) (xs : List A) → Among y (flat_map f xs) → GivenBy y xs
  given_by y [] m = absurd m
  given_by y (x ∷ xs) m =
      elim (in_either y (f x) (flat_map f xs) m) [
        | inl k ↦ record { source = x; member = inl refl; gives = k }
        | inr k ↦ let g : GivenBy y xs = given_by y xs k in record
            { source = g.source; member = inr g.member; gives = g.gives }
      ]

  pub gives : (x : A) (y : B) (xs : List A) → Among x xs → Among y (f x) → Among y (flat_map f xs)
  gives x y [] m k = absurd m
  gives x y (z ∷ xs) (inl same) k = in_front y (f z) (flat_map f xs) (subst (λ a. Among y (f a)) same k)
  gives x y (z ∷ xs) (inr m) k = in_back y (f z) (flat_map f xs) (gives x y xs m k)
