-- Members of lists.
use Rattle.std.specs.Prelude.{◌≡◌, ℕ, Bool, true, false, cond, not, ◌||◌, ◌&&◌, Option, Some, position, List, [], ◌∷◌, ◌++◌, map, length}
use Rattle.std.proofs.Common.{refl, sym, ◌∙◌, ap, subst, inl, inr, ◌⊎◌, arith, get_or, ◌<◌, zero, suc}
use Rattle.std.proofs.lemmas.List.Quantifiers.{position-Some}
use Rattle.std.specs.List.{list_any, filter, flat_map}
use Rattle.live_walk.specs.Graphs.{In, here, there}

module _ {A : Type 0} where
  pub in_front : {x : A} {xs : List A} (ys : List A) → In x xs → In x (xs ++ ys)
  in_front ys here = here
  in_front ys (there h) = there (in_front ys h)

  pub in_back : {x : A} (xs : List A) {ys : List A} → In x ys → In x (xs ++ ys)
  in_back [] h = h
  in_back (y ∷ xs) h = there (in_back xs h)

  pub in_either : {x : A} (xs ys : List A) → In x (xs ++ ys) → In x xs ⊎ In x ys
  in_either [] ys h = inr h
  in_either (y ∷ xs) ys here = inl here
  in_either (y ∷ xs) ys (there h) = elim (in_either xs ys h) [ inl k ↦ inl (there k) | inr k ↦ inr k ]

  pub in_cons : (x y : A) (ys : List A) → In x (y ∷ ys) → (x ≡ y) ⊎ In x ys
  in_cons x y ys here = inl refl
  in_cons x y ys (there h) = inr h

  pub in_one : {x y : A} → In x (y ∷ []) → x ≡ y
  in_one here = refl
  in_one (there h) = elim h [ ]

  in_cond : (t : Bool) (x y : A) (ys : List A) → In x ys → In x (cond t (y ∷ ys) ys)
  in_cond true x y ys h = there h
  in_cond false x y ys h = h

  pub in_filter : (test : A → Bool) {x : A} {xs : List A} → test x ≡ true → In x xs → In x (filter test xs)
  in_filter test {x} {xs} e (here {xs = rest}) = rw e here
  in_filter test {x} {xs} e (there {y} {xs = rest} h) = in_cond (test y) x y (filter test rest) (in_filter test e h)

  pub record Passed (test : A → Bool) (x : A) (xs : List A) : Type 0 where
    pub member : In x xs
    pub passes : test x ≡ true

  pub from_filter : (test : A → Bool) (x : A) (xs : List A) → In x (filter test xs) → Passed test x xs
  from_filter test x [] h = elim h [ ]
  from_filter test x (y ∷ xs) h = by (from_filter test x xs) (test y) refl h
    where
      further : Passed test x xs → Passed test x (y ∷ xs)
      further p = record { member = there p.member; passes = p.passes }

      first : test y ≡ true → (zs : List A) → In x (y ∷ zs) → (In x zs → Passed test x xs) → Passed test x (y ∷ xs)
      first e zs m later =
          elim (in_cons x y zs m) [
            | inl k ↦ record { member = subst (λ z. In z (y ∷ xs)) (sym k) here; passes = rw k e }
            | inr k ↦ further (later k)
          ]

      by : (In x (filter test xs) → Passed test x xs) → (t : Bool) → test y ≡ t
          → In x (cond t (y ∷ filter test xs) (filter test xs)) → Passed test x (y ∷ xs)
      by later true e m = first e (filter test xs) m later
      by later false e m = further (later m)

  -- a test that some member passes
  pub any_from_in : (test : A → Bool) {x : A} {xs : List A} → In x xs → test x ≡ true → list_any test xs ≡ true
  any_from_in test here e = rw e refl
  any_from_in test {x} (there {y} {xs = rest} h) e = by (test y) (any_from_in test h e)
    where
      by : (t : Bool) → list_any test rest ≡ true → (t || list_any test rest) ≡ true
      by true m = refl
      by false m = m

  pub record Passes (test : A → Bool) (xs : List A) : Type 0 where
    pub one : A
    pub member : In one xs
    pub passes : test one ≡ true

  pub in_from_any : (test : A → Bool) (xs : List A) → list_any test xs ≡ true → Passes test xs
  in_from_any test [] h = absurd (cc)
  in_from_any test (x ∷ xs) h = by (in_from_any test xs) (test x) refl h
    where
      by : (list_any test xs ≡ true → Passes test xs) → (t : Bool) → test x ≡ t → (t || list_any test xs) ≡ true
          → Passes test (x ∷ xs)
      by later true e m = record { one = x; member = here; passes = e }
      by later false e m = let p : Passes test xs =
          later m in record { one = p.one; member = there p.member; passes = p.passes }

  pub in_get : (xs : List A) (i : ℕ) (d : A) → i < length xs → In (get_or xs i d) xs
  in_get [] i d h = absurd (omega (arith, h))
  in_get (x ∷ xs) zero d h = here
  in_get (x ∷ xs) (suc i) d h = there (in_get xs i d (omega (arith, h)))

  -- where a test has a first place, some member passes
  pub in_from_position : (test : A → Bool) (xs : List A) (place : ℕ) → position test xs ≡ Some place → Passes test xs
  in_from_position test [] place h = absurd (cc)
  in_from_position test (x ∷ xs) place h =
      let k : (place < length (x ∷ xs)) × (test (get_or (x ∷ xs) place x) ≡ true)
      × ((i : ℕ) → i < place → test (get_or (x ∷ xs) i x) ≡ false) = position-Some test (x ∷ xs) place x h in
      record { one = get_or (x ∷ xs) place x; member = in_get (x ∷ xs) place x k.0; passes = k.1 }

  -- tests that agree on members keep the same
  pub filter_same : (p q : A → Bool) (xs : List A) → ((x : A) → In x xs → p x ≡ q x) → filter p xs ≡ filter q xs
  filter_same p q [] h = refl
  filter_same p q (x ∷ xs) h = let e : p x ≡ q x = h x here in let r : filter p xs ≡ filter q xs =
      filter_same p q xs (λ y m. h y (there m)) in rw (e, r)

pub map_same : {A B : Type 0} (f g : A → B) (xs : List A) → ((x : A) → In x xs → f x ≡ g x) → map f xs ≡ map g xs
map_same f g [] h = refl
map_same f g (x ∷ xs) h = let e : f x ≡ g x = h x here in let r : map f xs ≡ map g xs =
    map_same f g xs (λ y m. h y (there m)) in rw (e, r)

module _ {A B : Type 0} (f : A → B) where
  pub in_map : {x : A} {xs : List A} → In x xs → In (f x) (map f xs)
  in_map here = here
  in_map (there h) = there (in_map h)

  pub record Mapped (y : B) (xs : List A) : Type 0 where
    pub one : A
    pub member : In one xs
    pub is : y ≡ f one

  pub from_map : (y : B) (xs : List A) → In y (map f xs) → Mapped y xs
  from_map y [] h = elim h [ ]
  from_map y (x ∷ xs) h = by (f x) refl h (from_map y xs)
    where
      by : (z : B) → z ≡ f x → In y (z ∷ map f xs) → (In y (map f xs) → Mapped y xs) → Mapped y (x ∷ xs)
      by z e here later = record { one = x; member = here; is = e }
      by z e (there m) later = let k : Mapped y xs =
          later m in record { one = k.one; member = there k.member; is = k.is }

module _ {A B : Type 0} (f : A → List B) where
  pub in_flat_map : {x : A} {y : B} {xs : List A} → In x xs → In y (f x) → In y (flat_map f xs)
  in_flat_map {x} {y} here h = in_front _ h
  in_flat_map {x} {y} (there {y = z} k) h = in_back (f z) (in_flat_map k h)

  pub record FlatMapped (y : B) (xs : List A) : Type 0 where
    pub one : A
    pub member : In one xs
    pub inside : In y (f one)

  pub from_flat_map : (y : B) (xs : List A) → In y (flat_map f xs) → FlatMapped y xs
  from_flat_map y [] h = elim h [ ]
  from_flat_map y (x ∷ xs) h =
      elim (in_either (f x) (flat_map f xs) h) [
        | inl k ↦ record { one = x; member = here; inside = k }
        | inr k ↦ (let m : FlatMapped y xs =
            from_flat_map y xs k in record { one = m.one; member = there m.member; inside = m.inside })
      ]

pub both_ways : (s t : Bool) → (s ≡ true → t ≡ true) → (t ≡ true → s ≡ true) → s ≡ t
both_ways true true f b = refl
both_ways true false f b = sym (f refl)
both_ways false true f b = b refl
both_ways false false f b = refl

pub and_both : (s t : Bool) → (s && t) ≡ true → (s ≡ true) × (t ≡ true)
and_both true t h = (refl, h)
and_both false t h = absurd (cc)

pub not_true : (t : Bool) → not t ≡ true → t ≡ false
not_true true h = absurd (cc)
not_true false h = refl
