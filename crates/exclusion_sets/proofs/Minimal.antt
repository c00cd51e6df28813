-- What an addition to sets none of which is within another keeps.
use Rattle.std.proofs.Common.{◌≡◌, ℕ, ◌+◌, arith, Bool, true, false, not, cond, ◌||◌, ◌⊎◌, inl, inr, Option, None, Some, List, [], ◌∷◌, filter, refl, sym, ◌∙◌, ap, subst, get_or, true≢false}
use Rattle.std.specs.Prelude.{position}
use Rattle.std.specs.List.{All, IsAmong, list_any, position_from}
use Rattle.std.proofs.Math.Bool.{or-true, or-false}
use Rattle.std.proofs.lemmas.Bool.{not-true}
use Rattle.std.proofs.lemmas.Option.{none-some}
use Rattle.std.proofs.lemmas.Iterator.Adapters.{position_from-zero}
use Rattle.std.proofs.lemmas.List.{get_or_default}
use Rattle.std.proofs.lemmas.List.Elements.{All-append, All-cons, All-filter, All-get_or, filter_passes}
use Rattle.std.proofs.lemmas.List.Folds.{list_any-append, list_any_at, list_any_none}
use Rattle.std.proofs.lemmas.List.Kept.{AllPairs-filter}
use Rattle.std.proofs.lemmas.List.Quantifiers.{all_pairs_push, position-Some}
use Rattle.res_base.specs.declared.coord.Module.{Module}
use Rattle.exclusion_sets.specs.Exclusions.{is_excluded, is_within}
use Rattle.exclusion_sets.specs.Minimal.{AreApart, IsMinimal, has_within, is_passed, covering_place, without_covered, unless_covered, sets_after}
use Rattle.exclusion_sets.specs.declared.excl_set.ExclSet.{ExclSet}
use Rattle.exclusion_sets.proofs.Booleans.{list_any-implies}
use Rattle.exclusion_sets.proofs.SetLaws.{passes_more, within-trans}

-- where no place passes the test, no item does
module _ {X : Type 0} (p : X → Bool) where
  none_from : (start : ℕ) (xs : List X) → position_from p start xs ≡ None → All (λ x. p x ≡ false) xs
  none_from start [] e = λ k d within. absurd (omega (arith, within))
  none_from start (x ∷ xs) e = at (p x) refl (none_from (start + 1) xs) e
    where
      at : (b : Bool) → p x ≡ b → (position_from p (start + 1) xs ≡ None → All (λ y. p y ≡ false) xs)
          → cond b (Some start) (position_from p (start + 1) xs) ≡ None → All (λ y. p y ≡ false) (x ∷ xs)
      at true here later none = absurd (none-some start (sym none))
      at false here later none = All-cons (λ y. p y ≡ false) x xs here (later none)

  pub position_none : (xs : List X) → position p xs ≡ None → All (λ x. p x ≡ false) xs
  position_none xs e = none_from 0 xs (sym (position_from-zero p xs) ∙ e)

  pub position_any : (xs : List X) (place : ℕ) (d : X) → position p xs ≡ Some place → list_any p xs ≡ true
  position_any xs place d e = let found = position-Some p xs place d e in list_any_at p xs place d found.0 found.1

-- a kept set stays where the new one is not within it
abbrev stays : ExclSet → ExclSet → Bool
stays set kept = not (is_within set kept)

pub minimal_after : (sets : List ExclSet) (set : ExclSet) → IsMinimal sets → IsMinimal (sets_after sets set)
minimal_after sets set minimal = at (covering_place sets set) refl
  where
    at : (place : Option ℕ) → covering_place sets set ≡ place → IsMinimal (unless_covered place sets set)
    at (Some place) e = minimal
    at None e =
        let stay : IsMinimal (filter (stays set) sets) = AllPairs-filter AreApart (stays set) sets minimal in
        let below : All (λ kept. is_within kept set ≡ false) (filter (stays set) sets) =
        All-filter (stays set) (λ kept. is_within kept set ≡ false) sets (position_none (λ kept. is_within kept set) sets e) in
        let above : All (λ kept. stays set kept ≡ true) (filter (stays set) sets) = filter_passes (stays set) sets in
        all_pairs_push AreApart (filter (stays set) sets) set stay (λ k d within. (below k d within, not-true _ (above k d within)))

pub covered_after : (sets : List ExclSet) (set : ExclSet) → has_within sets set ≡ true → sets_after sets set ≡ sets
covered_after sets set covered = at (covering_place sets set) refl
  where
    at : (place : Option ℕ) → covering_place sets set ≡ place → unless_covered place sets set ≡ sets
    at (Some place) e = refl
    at None e =
        let free : has_within sets set ≡ false =
        list_any_none (λ kept. is_within kept set) sets (position_none (λ kept. is_within kept set) sets e) in
        absurd (true≢false (sym covered ∙ free))

pub added_after : (sets : List ExclSet) (set : ExclSet) → has_within sets set ≡ false
    → sets_after sets set ≡ without_covered sets set
added_after sets set free = at (covering_place sets set) refl
  where
    at : (place : Option ℕ) → covering_place sets set ≡ place → unless_covered place sets set ≡ without_covered sets set
    at (Some place) e = absurd (true≢false (sym (position_any (λ kept. is_within kept set) sets place set e) ∙ free))
    at None e = refl

-- a test that each set passes which is within one that passes it
module _ (p : ExclSet → Bool) (narrows : (a b : ExclSet) → is_within a b ≡ true → p b ≡ true → p a ≡ true) where
  any_put : (sets : List ExclSet) (set : ExclSet) → list_any p (without_covered sets set) ≡ (list_any p sets || p set)
  any_put sets set =
      list_any-append p (filter (stays set) sets) (set ∷ [])
      ∙ ap (λ b. list_any p (filter (stays set) sets) || b) (or-false (p set)) ∙ rest sets
    where
      rest : (xs : List ExclSet)
          → (list_any p (filter (stays set) xs) || p set) ≡ (list_any p xs || p set)
      rest [] = refl
      rest (x ∷ xs) = at (is_within set x) refl (rest xs)
        where
          at : (b : Bool) → is_within set x ≡ b
              → (list_any p (filter (stays set) xs) || p set) ≡ (list_any p xs || p set)
              → (list_any p (cond (not b) (x ∷ filter (stays set) xs) (filter (stays set) xs)) || p set)
              ≡ ((p x || list_any p xs) || p set)
          at false e same = by (p x)
            where
              by : (here : Bool)
                  → ((here || list_any p (filter (stays set) xs)) || p set) ≡ ((here || list_any p xs) || p set)
              by true = refl
              by false = same
          at true e same = by (p x) refl
            where
              by : (here : Bool) → p x ≡ here
                  → (list_any p (filter (stays set) xs) || p set) ≡ ((here || list_any p xs) || p set)
              by true passes = rw (narrows set x e passes) (or-true (list_any p (filter (stays set) xs)))
              by false passes = same

  pub any_after : (sets : List ExclSet) (set : ExclSet) → list_any p (sets_after sets set) ≡ (list_any p sets || p set)
  any_after sets set = at (covering_place sets set) refl
    where
      at : (place : Option ℕ) → covering_place sets set ≡ place
          → list_any p (unless_covered place sets set) ≡ (list_any p sets || p set)
      at None e = any_put sets set
      at (Some place) e = by (p set) refl
        where
          by : (new : Bool) → p set ≡ new → list_any p sets ≡ (list_any p sets || new)
          by false passes = sym (or-false (list_any p sets))
          by true passes =
              let found : has_within sets set ≡ true = position_any (λ kept. is_within kept set) sets place set e in
              list_any-implies (λ kept. is_within kept set) p (λ kept within. narrows kept set within passes) sets found
              ∙ sym (or-true (list_any p sets))

pub within_after : (sets : List ExclSet) (set wide : ExclSet)
    → has_within (sets_after sets set) wide ≡ (has_within sets wide || is_within set wide)
within_after sets set wide = any_after (λ kept. is_within kept wide) (λ a b ab bc. within-trans a b wide ab bc) sets set

passes_within : (m : Module) (a b : ExclSet) → is_within a b ≡ true → not (is_excluded b m) ≡ true
    → not (is_excluded a m) ≡ true
passes_within m a b ab passes = ap not (passes_more a b m ab (not-true (is_excluded b m) passes))

pub passes_after : (sets : List ExclSet) (set : ExclSet) (m : Module)
    → is_passed (sets_after sets set) m ≡ (is_passed sets m || not (is_excluded set m))
passes_after sets set m = any_after (λ kept. not (is_excluded kept m)) (passes_within m) sets set

pub all_after : (P : ExclSet → Type 0) (sets : List ExclSet) (set : ExclSet) → All P sets → P set
    → All P (sets_after sets set)
all_after P sets set all new = at (covering_place sets set)
  where
    at : (place : Option ℕ) → All P (unless_covered place sets set)
    at (Some place) = all
    at None =
        let alone : All P (set ∷ []) = All-cons P set [] new (λ k d within. absurd (omega (arith, within))) in
        All-append P (filter (stays set) sets) (set ∷ []) (All-filter (stays set) P sets all) alone

pub among_after : (sets : List ExclSet) (set one : ExclSet) → IsAmong (sets_after sets set) one
    → IsAmong sets one ⊎ (one ≡ set)
among_after sets set one among =
    let Before : ExclSet → Type 0 = λ kept. IsAmong sets kept ⊎ (kept ≡ set) in
    let own : All Before sets = λ k d within. inl (k, (within, get_or_default sets k d (get_or sets k d) within)) in
    subst Before (sym among.1.1) (All-get_or Before (sets_after sets set) among.0 one among.1.0 (all_after Before sets set own (inr refl)))
