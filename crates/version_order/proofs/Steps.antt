-- What is left of a text after one more character.
use Rattle.std.proofs.Common.{◌≡◌, ℕ, ◌+◌, ◌-◌, ◌<◌, ◌≤◌, true, false, List, [], ◌∷◌, ◌++◌, length, map, drop, get_or, inl, inr, refl, sym, ◌∙◌, ap, arith}
use Rattle.std.specs.Prelude.{slice_range, ◌==◌}
use Rattle.std.proofs.lemmas.Bool.{cases_Bool, eqb-true}
use Rattle.std.proofs.lemmas.List.{drop_more, append_assoc, length-drop, length-take-le}
use Rattle.version_order.specs.Items.{is_separator}
use Rattle.version_order.specs.RankValue.{RankValue}
use Rattle.version_order.specs.Ranks.{rank, without_zeros, number_rank}
use Rattle.version_order.specs.Kept.{rank_at}
use Rattle.version_order.specs.Cutting.{breaks, items_from}
use Rattle.version_order.proofs.Cutting.{from_separator, from_break, from_more}
use Rattle.version_order.proofs.Slices.{range-cons, range-push, range-none}

module _ (xs : List ℕ) (start i : ℕ) (begun : start ≤ i) (inside : i < length xs) where
  next : items_from (slice_range xs start i) (drop i xs) ≡ items_from (slice_range xs start i) (get_or xs i 0 ∷ drop (i + 1) xs)
  next = ap (items_from (slice_range xs start i)) (drop_more xs i 0 inside)

  pub separated : is_separator (get_or xs i 0) ≡ true
      → slice_range xs start i ∷ items_from (slice_range xs (i + 1) (i + 1)) (drop (i + 1) xs) ≡ items_from
      (slice_range xs start i) (drop i xs)
  separated e = rw range-none (sym (next ∙ from_separator (slice_range xs start i) (drop (i + 1) xs) (get_or xs i 0) e))

  pub broken : is_separator (get_or xs i 0) ≡ false → breaks (slice_range xs start i) (get_or xs i 0) ≡ true
      → slice_range xs start i ∷ items_from (slice_range xs i (i + 1)) (drop (i + 1) xs) ≡ items_from
      (slice_range xs start i) (drop i xs)
  broken e b =
      rw (range-cons xs i (i + 1) (omega arith) (omega arith), range-none)
      (sym (next ∙ from_break (slice_range xs start i) (drop (i + 1) xs) (get_or xs i 0) e b))

  pub grown : is_separator (get_or xs i 0) ≡ false → breaks (slice_range xs start i) (get_or xs i 0) ≡ false
      → items_from (slice_range xs start (i + 1)) (drop (i + 1) xs) ≡ items_from (slice_range xs start i) (drop i xs)
  grown e b =
      rw (range-push xs start i begun inside)
      (sym (next ∙ from_more (slice_range xs start i) (drop (i + 1) xs) (get_or xs i 0) e b))

-- an item and those after it, after others
pub joined : (before now : List RankValue) (piece : List ℕ) (rest whole : List (List ℕ))
    → now ≡ before ++ rank piece ∷ [] → piece ∷ rest ≡ whole → now ++ map rank rest ≡ before ++ map rank whole
joined before now piece rest whole e f =
    ap (λ n. n ++ map rank rest) e ∙ append_assoc before (rank piece ∷ []) (map rank rest)
    ∙ ap (λ w. before ++ map rank w) f

pub zero_passed : (d : ℕ) (digits : List ℕ) → d ≡ 48 → without_zeros (d ∷ digits) ≡ without_zeros digits
zero_passed d digits e = rw e refl

no_zero : (d : ℕ) (digits : List ℕ) → (d ≡ 48 → ⊥) → without_zeros (d ∷ digits) ≡ d ∷ digits
no_zero d digits other =
    elim (cases_Bool (d == 48)) [
      | inl e ↦ absurd (other (eqb-true d 48 e))
      | inr e ↦ rw e refl
    ]

pub number_at : (xs : List ℕ) (i end : ℕ) → i < end → end ≤ length xs → (get_or xs i 0 ≡ 48 → ⊥)
    → rank_at xs (record { class = 8; start = i; end = end }) ≡ number_rank (without_zeros (slice_range xs i end))
number_at xs i end below within other =
    let cut = range-cons xs i end below within in
    let long : end - i ≡ length (slice_range xs i end) = sym (length-take-le (end - i) (drop i xs) (rw length-drop (omega arith))) in
    let whole : rank_at xs (record { class = 8; start = i; end = end }) ≡ record { class = 8; size = length (slice_range xs i end); bytes = slice_range xs i end } = ap (λ n. record { class = 8; size = n; bytes = slice_range xs i end }) long in
    whole ∙ ap (λ b. record { class = 8; size = length b; bytes = b }) cut ∙ ap number_rank
    (sym (no_zero (get_or xs i 0) (slice_range xs (i + 1) end) other) ∙ ap without_zeros (sym cut))
