-- Members of lists that are joined, filtered and flattened, and lists with the same members.
use Rattle.std.proofs.Common.{◌≡◌, ℕ, zero, suc, ◌<◌, arith, ◌⊎◌, inl, inr, Bool, true, false, cond, not, ◌&&◌, List, [], ◌∷◌, ◌++◌, filter, length, get_or, ◌==◌, refl, sym, ◌∙◌, ap, ne_eqb, suc-ne-zero}
use Rattle.std.specs.List.{list_all}
use Rattle.std.specs.Prelude.{Contains}
use Rattle.claim_rules.specs.Resolvers.{SameAt}
use Rattle.pom_build.specs.Reads.{Agree}
use Rattle.res_base.specs.Known.{Known}
use Rattle.res_base.specs.Members.{Among}
use Rattle.res_base.specs.declared.key.FileKey.{FileKey}

module _ {A : Type 0} where
  pub among_at : (xs : List A) (k : ℕ) (d x : A) → k < length xs → get_or xs k d ≡ x → Among x xs
  among_at [] k d x within is = absurd (omega (arith, within))
  among_at (y ∷ ys) zero d x within is = inl (sym is)
  among_at (y ∷ ys) (suc k) d x within is = inr (among_at ys k d x (omega (arith, within)) is)

  pub record Place (xs : List A) (x : A) : Type 0 where
    pub at : ℕ
    pub within : at < length xs
    pub is : (d : A) → get_or xs at d ≡ x

  pub place_of : (xs : List A) (x : A) → Among x xs → Place xs x
  place_of [] x m = absurd m
  place_of (y ∷ ys) x (inl is) = record { at = 0; within = omega arith; is = λ d. sym is }
  place_of (y ∷ ys) x (inr m) =
      let later = place_of ys x m in
      let inside : suc later.at < length (y ∷ ys) = omega (arith, later.within) in
      record { at = suc later.at; within = inside; is = λ d. later.is d }

  pub to_contains : (xs : List A) (x : A) → Among x xs → Contains xs x
  to_contains xs x m = let p = place_of xs x m in (p.at, p.within, p.is x)

  pub from_contains : (xs : List A) (x : A) → Contains xs x → Among x xs
  from_contains xs x c = among_at xs c.0 x x c.1 c.2

  pub in_either : (x : A) (xs ys : List A) → Among x (xs ++ ys) → Among x xs ⊎ Among x ys
  in_either x [] ys m = inr m
  in_either x (y ∷ xs) ys (inl is) = inl (inl is)
  in_either x (y ∷ xs) ys (inr m) = elim (in_either x xs ys m) [ inl k ↦ inl (inr k) | inr k ↦ inr k ]

  -- a member that passes
  pub record Passed (test : A → Bool) (x : A) (xs : List A) : Type 0 where
    pub member : Among x xs
    pub is : test x ≡ true

  further : (test : A → Bool) (x y : A) (xs : List A) → Passed test x xs → Passed test x (y ∷ xs)
  further test x y xs p = record { member = inr p.member; is = p.is }

  pub passed : (test : A → Bool) (x : A) (xs : List A) → Among x (filter test xs) → Passed test x xs
  passed test x [] m = absurd m
  passed test x (y ∷ ys) m = by (test y) refl (passed test x ys) m
    where
      by : (b : Bool) → test y ≡ b → (Among x (filter test ys) → Passed test x ys)
          → Among x (cond b (y ∷ filter test ys) (filter test ys)) → Passed test x (y ∷ ys)
      by true e later (inl same) = record { member = inl same; is = ap test same ∙ e }
      by true e later (inr k) = further test x y ys (later k)
      by false e later k = further test x y ys (later k)

-- none fails exactly where all pass
none_fails : (test : FileKey → Bool) (keys : List FileKey) → (length (filter (λ key. not (test key)) keys) == 0) ≡ list_all test keys
none_fails test [] = refl
none_fails test (key ∷ keys) = by (test key) (none_fails test keys)
  where
    by : (t : Bool) → (length (filter (λ k. not (test k)) keys) == 0) ≡ list_all test keys
        → (length (cond (not t) (key ∷ filter (λ k. not (test k)) keys) (filter (λ k. not (test k)) keys)) == 0) ≡ (t && list_all test keys)
    by true later = later
    by false later = ne_eqb (suc (length (filter (λ k. not (test k)) keys))) 0 (λ is. suc-ne-zero (length (filter (λ k. not (test k)) keys)) is)

-- a session with this verdict is over exactly where it needs nothing
pub ends_by : (test : FileKey → Bool) (keys needs : List FileKey) (b : Bool) → needs ≡ filter (λ key. not (test key)) keys
    → b ≡ (length needs == 0) → b ≡ list_all test keys
ends_by test keys needs b is tells = tells ∙ ap (λ xs. length xs == 0) is ∙ none_fails test keys

pub agree_from : (one other : Known) (keys : List FileKey) → SameAt one other keys → Agree one other keys
agree_from one other [] same = tt
agree_from one other (key ∷ keys) same = (same key (inl refl), agree_from one other keys (λ k m. same k (inr m)))
