-- Tests that are true or false together, over single values and lists.
use Rattle.std.proofs.Common.{◌≡◌, Bool, true, false, ◌&&◌, inl, inr, List, [], ◌∷◌, refl, sym, ◌∙◌, true≢false}
use Rattle.std.specs.List.{list_any, list_all}
use Rattle.std.proofs.lemmas.Bool.{and_from, or_cases, or_left, or_right}

pub first : (a b : Bool) → (a && b) ≡ true → a ≡ true
first true b e = refl
first false b e = e

pub second : (a b : Bool) → (a && b) ≡ true → b ≡ true
second true b e = e
second false b e = absurd (true≢false (sym e))

-- what makes a test true is false where the test is
pub false_before : (a b : Bool) → (a ≡ true → b ≡ true) → b ≡ false → a ≡ false
false_before true b implies e = absurd (true≢false (sym (implies refl) ∙ e))
false_before false b implies e = refl

module _ {X : Type 0} (p q : X → Bool) (implies : (x : X) → p x ≡ true → q x ≡ true) where
  pub list_all-implies : (xs : List X) → list_all p xs ≡ true → list_all q xs ≡ true
  list_all-implies [] e = refl
  list_all-implies (x ∷ xs) e =
      and_from (q x) (list_all q xs) (implies x (first (p x) (list_all p xs) e)) (list_all-implies xs (second (p x) (list_all p xs) e))

  pub list_any-implies : (xs : List X) → list_any p xs ≡ true → list_any q xs ≡ true
  list_any-implies [] e = e
  list_any-implies (x ∷ xs) e =
      elim (or_cases (p x) (list_any p xs) e) [
        | inl here ↦ or_left (q x) (list_any q xs) (implies x here)
        | inr later ↦ or_right (q x) (list_any q xs) (list_any-implies xs later)
      ]
