-- Choices that differ at a place.
use Rattle.std.proofs.Common.{◌≡◌, ◌≤◌, ◌<◌, drop, ℕ, zero, suc, Bool, true, false, ◌&&◌, List, [], ◌∷◌, length, get_or, refl, sym, ◌∙◌, ap, arith}
use Rattle.std.proofs.lemmas.List.{drop_all}
use Rattle.resolution.specs.declared.choices.ChoiceRow.{ChoiceRow}
use Rattle.round_core.specs.Choices.{choices_eq, row_eq}

pub apart_at : (a b : List ChoiceRow) (place : ℕ) (x y : ChoiceRow) → place < length a → place < length b
    → row_eq (get_or a place x) (get_or b place y) ≡ false → choices_eq a b ≡ false
apart_at [] b place x y l k h = absurd (omega (arith, l))
apart_at (r ∷ a) [] place x y l k h = absurd (omega (arith, k))
apart_at (r ∷ a) (s ∷ b) zero x y l k h = rw h refl
apart_at (r ∷ a) (s ∷ b) (suc place) x y l k h =
    by (row_eq r s) (apart_at a b place x y (omega (arith, l)) (omega (arith, k)) h)
  where
    by : (t : Bool) → choices_eq a b ≡ false → (t && choices_eq a b) ≡ false
    by true e = e
    by false e = refl

pub ended : (a b : List ChoiceRow) (place : ℕ) → length a ≤ place → length b ≤ place
    → choices_eq (drop place a) (drop place b) ≡ true
ended a b place in_a in_b = ap (λ (z : List ChoiceRow). choices_eq z (drop place b)) (drop_all place a in_a)
    ∙ ap (λ (z : List ChoiceRow). choices_eq [] z) (drop_all place b in_b)
