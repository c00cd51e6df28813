-- A text that is trimmed at its end, and a range of a text with one more byte.
use Rattle.std.proofs.Common.{◌≡◌, ℕ, ◌+◌, ◌-◌, ◌<◌, ◌≤◌, Bool, true, false, List, [], ◌∷◌, ◌++◌, length, take, drop, get_or, refl, sym, ◌∙◌, ap, arith}
use Rattle.std.specs.Prelude.{slice_range, ◌&&◌}
use Rattle.std.specs.List.{list_all}
use Rattle.std.proofs.lemmas.Bool.{and_from}
use Rattle.std.proofs.lemmas.List.{take_more, get_or-drop, length-drop}
use Rattle.std.proofs.lemmas.List.Folds.{list_all-append}
use Rattle.ascii_bytes.specs.Parts.{before_trimmed, trim_end}

module _ (has : ℕ → Bool) where
  trimmed_last : (xs : List ℕ) (c : ℕ) → has c ≡ true → trim_end has (xs ++ c ∷ []) ≡ trim_end has xs
  trimmed_last [] c e = rw e refl
  trimmed_last (x ∷ xs) c e = ap (before_trimmed has x) (trimmed_last xs c e)

  other_last : (xs : List ℕ) (c : ℕ) → has c ≡ false → trim_end has (xs ++ c ∷ []) ≡ xs ++ c ∷ []
  other_last [] c e = rw e refl
  other_last (x ∷ []) c e = ap (before_trimmed has x) (other_last [] c e)
  other_last (x ∷ (y ∷ xs)) c e = ap (before_trimmed has x) (other_last (y ∷ xs) c e)

  one_more : (xs : List ℕ) (n : ℕ) → 0 < n → n ≤ length xs → take n xs ≡ take (n - 1) xs ++ get_or xs (n - 1) 0 ∷ []
  one_more xs n above within = let e : n ≡ n - 1 + 1 = omega arith in ap (λ k. take k xs) e
      ∙ take_more xs (n - 1) 0 (omega arith)

  pub trimmed_before : (xs : List ℕ) (n : ℕ) → 0 < n → n ≤ length xs → has (get_or xs (n - 1) 0) ≡ true
      → trim_end has (take (n - 1) xs) ≡ trim_end has (take n xs)
  trimmed_before xs n above within e = sym (ap (trim_end has) (one_more xs n above within)
      ∙ trimmed_last (take (n - 1) xs) (get_or xs (n - 1) 0) e)

  pub other_before : (xs : List ℕ) (n : ℕ) → 0 < n → n ≤ length xs → has (get_or xs (n - 1) 0) ≡ false
      → take n xs ≡ trim_end has (take n xs)
  other_before xs n above within e =
      one_more xs n above within
      ∙ sym (ap (trim_end has) (one_more xs n above within) ∙ other_last (take (n - 1) xs) (get_or xs (n - 1) 0) e)

  -- a class that has a range and the byte after it has both
  pub range_more : (xs : List ℕ) (i j : ℕ) → i ≤ j → j < length xs → list_all has (slice_range xs i j) ≡ true
      → has (get_or xs j 0) ≡ true → list_all has (slice_range xs i (j + 1)) ≡ true
  range_more xs i j below within part e =
      let count : j + 1 - i ≡ (j - i) + 1 = omega arith in
      let place : i + (j - i) ≡ j = omega arith in
      let last : get_or (drop i xs) (j - i) 0 ≡ get_or xs j 0 = get_or-drop i xs (j - i) 0
      ∙ ap (λ n. get_or xs n 0) place in
      let more : slice_range xs i (j + 1) ≡ slice_range xs i j ++ get_or xs j 0 ∷ [] =
      ap (λ n. take n (drop i xs)) count ∙ take_more (drop i xs) (j - i) 0 (rw length-drop (omega arith))
      ∙ ap (λ x. slice_range xs i j ++ x ∷ []) last in
      ap (list_all has) more ∙ list_all-append has (slice_range xs i j) (get_or xs j 0 ∷ [])
      ∙ and_from (list_all has (slice_range xs i j)) (has (get_or xs j 0) && true) part (rw e refl)
