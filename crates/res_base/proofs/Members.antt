-- Members of lists that are joined, filtered and flattened, and of lists without repeats.
use Rattle.std.proofs.Common.{◌≡◌, ◌⊎◌, inl, inr, Bool, true, false, cond, List, [], ◌∷◌, ◌++◌, refl, sym, ◌∙◌, ap, subst, true≢false, filter, ◌||◌}
use Rattle.std.specs.List.{flat_map, list_any}
use Rattle.res_base.specs.Members.{Among, each_once, unless_there}

module _ {A : Type 0} where
  pub among_left : (x : A) (xs ys : List A) → Among x xs → Among x (xs ++ ys)
  among_left x [] ys h = absurd h
  among_left x (y ∷ xs) ys (inl e) = inl e
  among_left x (y ∷ xs) ys (inr h) = inr (among_left x xs ys h)

  pub among_right : (x : A) (xs ys : List A) → Among x ys → Among x (xs ++ ys)
  among_right x [] ys h = h
  among_right x (y ∷ xs) ys h = inr (among_right x xs ys h)

  pub among_either : (x : A) (xs ys : List A) → Among x (xs ++ ys) → Among x xs ⊎ Among x ys
  among_either x [] ys h = inr h
  among_either x (y ∷ xs) ys (inl e) = inl (inl e)
  among_either x (y ∷ xs) ys (inr h) = elim (among_either x xs ys h) [ inl k ↦ inl (inr k) | inr k ↦ inr k ]

  -- a member that passes a test
  pub record Passed (p : A → Bool) (x : A) (xs : List A) : Type 0 where
    pub member : Among x xs
    pub passes : p x ≡ true

  later_passed : (p : A → Bool) (x y : A) (ys : List A) → Passed p x ys → Passed p x (y ∷ ys)
  later_passed p x y ys l = record { member = inr l.member; passes = l.passes }

  passed_cond : (p : A → Bool) (x y : A) (ys zs : List A) (b : Bool) → p y ≡ b → (Among x zs → Passed p x ys)
      → Among x (cond b (y ∷ zs) zs) → Passed p x (y ∷ ys)
  passed_cond p x y ys zs false e later h = later_passed p x y ys (later h)
  passed_cond p x y ys zs true e later (inl is) = record { member = inl is; passes = ap p is ∙ e }
  passed_cond p x y ys zs true e later (inr h) = later_passed p x y ys (later h)

  pub among_filter : (p : A → Bool) (x : A) (xs : List A) → Among x (filter p xs) → Passed p x xs
  among_filter p x [] h = absurd h
  among_filter p x (y ∷ ys) h = passed_cond p x y ys (filter p ys) (p y) refl (among_filter p x ys) h

  into_cond : (x y : A) (zs : List A) (b : Bool) → Among x zs → Among x (cond b (y ∷ zs) zs)
  into_cond x y zs true h = inr h
  into_cond x y zs false h = h

  pub into_filter : (p : A → Bool) (x : A) (xs : List A) → p x ≡ true → Among x xs → Among x (filter p xs)
  into_filter p x [] e h = absurd h
  into_filter p x (y ∷ ys) e (inl is) = rw (sym (ap p is) ∙ e) (inl is)
  into_filter p x (y ∷ ys) e (inr h) = into_cond x y (filter p ys) (p y) (into_filter p x ys e h)

  -- where some member passes a test, one is there
  pub any_among : (p : A → Bool) (xs : List A) → list_any p xs ≡ true → (x : A) × Passed p x xs
  any_among p [] e = absurd (true≢false (sym e))
  any_among p (x ∷ xs) e = by (p x) refl (any_among p xs) e
    where
      by : (b : Bool) → p x ≡ b → (list_any p xs ≡ true → (y : A) × Passed p y xs) → (b || list_any p xs) ≡ true
          → (y : A) × Passed p y (x ∷ xs)
      by true is later all = (x, record { member = inl refl; passes = is })
      by false is later all = let l = later all in (l.0, later_passed p l.0 x xs l.1)

module _ {A B : Type 0} (f : A → List B) where
  -- a member of what some member gives
  pub record From (y : B) (xs : List A) : Type 0 where
    pub source : A
    pub member : Among source xs
    pub gives : Among y (f source)

  pub among_flat_map : (y : B) (xs : List A) → Among y (flat_map f xs) → From y xs
  among_flat_map y [] h = absurd h
  among_flat_map y (x ∷ xs) h =
      elim (among_either y (f x) (flat_map f xs) h) [
        | inl k ↦ record { source = x; member = inl refl; gives = k }
        | inr k ↦ let l : From y xs = among_flat_map y xs k in record
            { source = l.source; member = inr l.member; gives = l.gives }
      ]

  pub into_flat_map : (x : A) (y : B) (xs : List A) → Among x xs → Among y (f x) → Among y (flat_map f xs)
  into_flat_map x y [] h k = absurd h
  into_flat_map x y (z ∷ xs) (inl e) k = among_left y (f z) (flat_map f xs) (subst (λ a. Among y (f a)) e k)
  into_flat_map x y (z ∷ xs) (inr h) k = among_right y (f z) (flat_map f xs) (into_flat_map x y xs h k)

-- a list without its repeats
module _ {A : Type 0} (eq : A → A → Bool) (same : (a b : A) → eq a b ≡ true → a ≡ b) where
  into_unless : (x one : A) (b : Bool) (xs : List A) → list_any (eq one) xs ≡ b → (x ≡ one) ⊎ Among x xs
      → Among x (unless_there b one xs)
  into_unless x one true xs e (inl is) =
      let l = any_among (eq one) xs e in
      subst (λ k. Among k xs) (sym (is ∙ same one l.0 l.1.passes)) l.1.member
  into_unless x one true xs e (inr h) = h
  into_unless x one false xs e h = h

  pub into_each_once : (x : A) (xs : List A) → Among x xs → Among x (each_once eq xs)
  into_each_once x [] h = h
  into_each_once x (y ∷ xs) (inl e) = into_unless x y (list_any (eq y) (each_once eq xs)) (each_once eq xs) refl (inl e)
  into_each_once x (y ∷ xs) (inr h) =
      into_unless x y (list_any (eq y) (each_once eq xs)) (each_once eq xs) refl (inr (into_each_once x xs h))

  among_unless : (x one : A) (b : Bool) (xs : List A) → Among x (unless_there b one xs) → (x ≡ one) ⊎ Among x xs
  among_unless x one true xs h = inr h
  among_unless x one false xs h = h

  pub among_each_once : (x : A) (xs : List A) → Among x (each_once eq xs) → Among x xs
  among_each_once x [] h = h
  among_each_once x (y ∷ xs) h =
      elim (among_unless x y (list_any (eq y) (each_once eq xs)) (each_once eq xs) h) [
        | inl e ↦ inl e
        | inr k ↦ inr (among_each_once x xs k)
      ]
