-- A part of a list, one place longer at either end.
use Rattle.std.proofs.Common.{◌≡◌, ℕ, ◌+◌, ◌-◌, ◌<◌, ◌≤◌, List, [], ◌∷◌, ◌++◌, length, take, drop, get_or, add-one, refl, sym, ◌∙◌, ap, arith}
use Rattle.std.specs.Prelude.{slice_range, Bool, true, ◌&&◌}
use Rattle.std.specs.List.{list_all}
use Rattle.std.proofs.Math.Seq.{take-add}
use Rattle.std.proofs.lemmas.Bool.{and_from}
use Rattle.std.proofs.lemmas.List.Folds.{list_all-append}
use Rattle.std.proofs.lemmas.List.{take_more, drop_more, get_or-drop, length-drop}

take-cons : (n : ℕ) (x : ℕ) (xs : List ℕ) → 0 < n → take n (x ∷ xs) ≡ x ∷ take (n - 1) xs
take-cons n x xs above = let e : n ≡ (n - 1) + 1 = omega arith in ap (λ k. take k (x ∷ xs)) e ∙ rw add-one refl

pub range-cons : (xs : List ℕ) (i j : ℕ) → i < j → j ≤ length xs
    → slice_range xs i j ≡ get_or xs i 0 ∷ slice_range xs (i + 1) j
range-cons xs i j below within =
    let e : j - i - 1 ≡ j - (i + 1) = omega arith in
    ap (take (j - i)) (drop_more xs i 0 (omega arith)) ∙ take-cons (j - i) (get_or xs i 0) (drop (i + 1) xs)
    (omega arith) ∙ ap (λ n. get_or xs i 0 ∷ take n (drop (i + 1) xs)) e

pub range-push : (xs : List ℕ) (i j : ℕ) → i ≤ j → j < length xs
    → slice_range xs i (j + 1) ≡ slice_range xs i j ++ get_or xs j 0 ∷ []
range-push xs i j below within =
    let e : j + 1 - i ≡ (j - i) + 1 = omega arith in
    let f : i + (j - i) ≡ j = omega arith in
    ap (λ n. take n (drop i xs)) e ∙ take_more (drop i xs) (j - i) 0 (rw length-drop (omega arith)) ∙ ap
    (λ x. slice_range xs i j ++ x ∷ []) (get_or-drop i xs (j - i) 0 ∙ ap (λ n. get_or xs n 0) f)

pub range-none : (xs : List ℕ) (i : ℕ) → slice_range xs i i ≡ []
range-none xs i = let e : i - i ≡ 0 = omega arith in rw e refl

pub take_range : (xs : List ℕ) (i j : ℕ) → i ≤ j → j ≤ length xs → take j xs ≡ take i xs ++ slice_range xs i j
take_range xs i j below within =
    let e : i + (j - i) ≡ j = omega arith in
    ap (λ n. take n xs) (sym e) ∙ take-add i (j - i) xs

-- a test that passes a part and the character after it passes both
pub all_range : (p : ℕ → Bool) (xs : List ℕ) (i j : ℕ) → i ≤ j → j < length xs
    → list_all p (slice_range xs i j) ≡ true → p (get_or xs j 0) ≡ true → list_all p (slice_range xs i (j + 1)) ≡ true
all_range p xs i j below within part e =
    ap (list_all p) (range-push xs i j below within)
    ∙ (list_all-append p (slice_range xs i j) (get_or xs j 0 ∷ []) ∙ and_from (list_all p (slice_range xs i j)) (p (get_or xs j 0) && true) part (rw e refl))
