-- Texts that are put together again from their parts.
use Rattle.std.proofs.Common.{◌≡◌, ◌<◌, ◌∷◌, ◌++◌, ℕ, List, length, eqb, get_or, sym, ap, ◌∙◌, append_assoc}
use Rattle.std.specs.List.{before_first, after_first, position_or_len}
use Rattle.std.proofs.lemmas.Bool.{eqb-true}
use Rattle.std.proofs.lemmas.List.Sums.{split_at_first, passes_at_first}

-- a text and its parts around its first slash
pub around_slash : (text front back : List ℕ) → position_or_len (λ b. eqb b 47) text < length text
    → front ≡ before_first (λ b. eqb b 47) text → back ≡ after_first (λ b. eqb b 47) text
    → text ≡ front ++ (47 ∷ back)
around_slash text front back within is_front is_back =
    let slash = eqb-true (get_or text (position_or_len (λ b. eqb b 47) text) 0) 47
    (passes_at_first (λ b. eqb b 47) text 0 within) in
    split_at_first (λ b. eqb b 47) text 0 within
    ∙ ap (λ k. before_first (λ b. eqb b 47) text ++ (k ∷ after_first (λ b. eqb b 47) text)) slash
    ∙ ap (λ k. k ++ (47 ∷ after_first (λ b. eqb b 47) text)) (sym is_front)
    ∙ ap (λ k. front ++ (47 ∷ k)) (sym is_back)

-- an authority and the target below its folder
pub target_spelled : (rest authority folder path target : List ℕ) → rest ≡ authority ++ (47 ∷ folder)
    → target ≡ 47 ∷ (folder ++ (47 ∷ path)) → authority ++ target ≡ rest ++ (47 ∷ path)
target_spelled rest authority folder path target is_rest is_target =
    ap (λ k. authority ++ k) is_target ∙ sym (append_assoc authority (47 ∷ folder) (47 ∷ path))
    ∙ ap (λ k. k ++ (47 ∷ path)) (sym is_rest)
