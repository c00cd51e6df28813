-- What a line has from one field on: a space, the field, and the rest, which begins with the sign after the field.
use Rattle.std.proofs.Common.{◌≡◌, ◌⊎◌, inl, inr, ℕ, suc, ◌+◌, List, [], ◌∷◌, ◌++◌, length, refl, sym, ◌∙◌, ap, subst, arith}
use Rattle.fault_place.specs.Place.{IsPlace}
use Rattle.cache_layout.specs.Places.{IsBefore, Lacks, Begins}
use Rattle.cache_layout.proofs.Parts.{AreApart, Both, in_first_part, in_second}
use Rattle.cache_layout.proofs.Literals.{After, after_at, not_after, same_place}

-- a grammar of such texts, by a field, the sign after it, and the rest
pub record IsTail (sign : ℕ) (First Second Tail : List ℕ → Type 0) : Type 0 where
  pub apart : AreApart sign First Second
  pub into : (text : List ℕ) → After 32 (Both First Second) text → Tail text
  pub back : (text : List ℕ) → Tail text → After 32 (Both First Second) text
  pub some_first : (text : List ℕ) × First text
  pub some_second : (text : List ℕ) × Second text

module _ {sign : ℕ} {First Second Tail : List ℕ → Type 0} (tail : IsTail sign First Second Tail) where
  some_both : (text : List ℕ) × Both First Second text
  some_both = (
    tail.some_first.0 ++ tail.some_second.0,
    record {
      first = tail.some_first.0;
      second = tail.some_second.0;
      whole = refl;
      is_first = tail.some_first.1;
      is_second = tail.some_second.1;
    },
  )

  pub some_tail : (text : List ℕ) × Tail text
  some_tail = (
    32 ∷ some_both.0,
    tail.into (32 ∷ some_both.0)
        (record { rest = some_both.0; whole = refl; is = some_both.1 }),
  )

  -- no space
  pub no_space : (text : List ℕ) → ((rest : List ℕ) → text ≡ 32 ∷ rest → ⊥) → IsPlace Tail text 0
  no_space text never = same_place (After 32 (Both First Second)) Tail text 0 tail.into tail.back
      (not_after 32 (Both First Second) text never some_both.0 some_both.1)

  at_after : (text after : List ℕ) (n m : ℕ) → text ≡ 32 ∷ after → m ≡ suc n → IsPlace (Both First Second) after n
      → IsPlace Tail text m
  at_after text after n m whole count at =
      same_place (After 32 (Both First Second)) Tail text m tail.into tail.back
      (subst (λ t. IsPlace (After 32 (Both First Second)) t m) (sym whole)
      (subst (λ k. IsPlace (After 32 (Both First Second)) (32 ∷ after) k) (sym count)
      (after_at 32 (Both First Second) after n at)))

  -- the text leaves the grammar in the field, or where the field should go on
  pub in_field : (text after a b : List ℕ) (n m : ℕ) → text ≡ 32 ∷ after → after ≡ a ++ b → IsBefore sign a b
      → m ≡ suc n → IsPlace First a n → IsPlace Tail text m
  in_field text after a b n m whole parts before count at = at_after text after n m whole count
      (subst (λ t. IsPlace (Both First Second) t n) (sym parts)
      (in_first_part tail.apart a b n before.lacks before.begins at tail.some_second.0 tail.some_second.1))

  -- or in the rest
  pub in_rest : (text after a b : List ℕ) (n m : ℕ) → text ≡ 32 ∷ after → after ≡ a ++ b → IsBefore sign a b
      → m ≡ suc (length a + n) → First a → IsPlace Second b n → IsPlace Tail text m
  in_rest text after a b n m whole parts before count is at = at_after text after (length a + n) m whole count
      (subst (λ t. IsPlace (Both First Second) t (length a + n)) (sym parts)
      (in_second tail.apart a b n before.lacks before.begins is at))
