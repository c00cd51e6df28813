-- What holds of the elements that a loop has looked at.
use Rattle.std.proofs.Common.{◌≡◌, ◌<◌, ◌+◌, ℕ, List, length, get_or, sym, ◌∙◌, ap, subst, ⊎_elim, arith}
use Rattle.std.specs.List.{AllWithin}
use Rattle.std.proofs.Math.Nat.{eq-or-lt_of_le}
use Rattle.std.proofs.lemmas.List.{get_or_default}

-- of one more element
pub one_more : {X : Type 0} (P : X → Type 0) (xs : List X) (n : ℕ) (x : X) → n < length xs → x ≡ get_or xs n x → P x → AllWithin P xs 0 n → AllWithin P xs 0 (n + 1)
one_more P xs n x within is here before k d low high =
    ⊎_elim (λ (same : k ≡ n). subst P (is ∙ get_or_default xs n x d within ∙ ap (λ i. get_or xs i d) (sym same)) here)
    (λ (less : k < n). before k d low less)
    (eq-or-lt_of_le (omega (arith, high)))
