-- Texts of a first part, alone or with a sign and a second part.
use Rattle.std.proofs.Common.{◌≡◌, ◌⊎◌, inl, inr, ℕ, suc, ◌+◌, Bool, true, false, ◌&&◌, List, [], ◌∷◌, ◌++◌, length, Option, Some, None, refl, sym, ◌∙◌, ap, subst, arith}
use Rattle.std.specs.Prelude.{◌==◌}
use Rattle.std.proofs.lemmas.Bool.{and_parts, and_from, eq-eqb, ne_eqb, eqb-true, eqb-false}
use Rattle.std.proofs.lemmas.List.{append-nil}
use Rattle.fault_place.specs.Place.{GoesOn, IsPlace}
use Rattle.cache_layout.specs.Addresses.{are_parts, is_with}
use Rattle.cache_layout.specs.Places.{Begins, IsBefore, Lacks, before, behind}
use Rattle.cache_layout.proofs.Literals.{After, Either, after_at, either_right, same_place}
use Rattle.cache_layout.proofs.Parts.{AreApart, Both, in_first_part, in_second}

-- a text cut at the first sign
pub record Cut (sign : ℕ) (text : List ℕ) : Type 0 where
  pub first : List ℕ
  pub rest : List ℕ
  pub whole : text ≡ first ++ rest
  pub cut : IsBefore sign first rest

pub cut : (sign : ℕ) (text : List ℕ) → Cut sign text
cut sign [] = record { first = []; rest = []; whole = refl; cut = record { lacks = tt; begins = inl refl } }
cut sign (x ∷ text) = by (x == sign) refl (cut sign text)
  where
    by : (b : Bool) → (x == sign) ≡ b → Cut sign text → Cut sign (x ∷ text)
    by true e inner =
        let is : x ≡ sign = eqb-true x sign e in
        record {
          first = [];
          rest = x ∷ text;
          whole = refl;
          cut = record { lacks = tt; begins = inr (text, ap (λ b. b ∷ text) is) };
        }
    by false e inner = record {
      first = x ∷ inner.first;
      rest = inner.rest;
      whole = ap (λ t. x ∷ t) inner.whole;
      cut = record { lacks = (eqb-false x sign e, inner.cut.lacks); begins = inner.cut.begins };
    }

before_whole : (sign : ℕ) (a : List ℕ) → Lacks sign a → before sign a ≡ a
before_whole sign [] p = refl
before_whole sign (x ∷ a) (never, p) = rw (ne_eqb x sign never) (ap (λ t. x ∷ t) (before_whole sign a p))

behind_none : (sign : ℕ) (a : List ℕ) → Lacks sign a → behind sign a ≡ None
behind_none sign [] p = refl
behind_none sign (x ∷ a) (never, p) = rw (ne_eqb x sign never) (behind_none sign a p)

before_sign : (sign : ℕ) (a b : List ℕ) → Lacks sign a → before sign (a ++ sign ∷ b) ≡ a
before_sign sign [] b p = rw (eq-eqb sign sign refl) refl
before_sign sign (x ∷ a) b (never, p) = rw (ne_eqb x sign never) (ap (λ t. x ∷ t) (before_sign sign a b p))

behind_sign : (sign : ℕ) (a b : List ℕ) → Lacks sign a → behind sign (a ++ sign ∷ b) ≡ Some b
behind_sign sign [] b p = rw (eq-eqb sign sign refl) refl
behind_sign sign (x ∷ a) b (never, p) = rw (ne_eqb x sign never) (behind_sign sign a b p)

abbrev pub Holds : (List ℕ → Bool) → List ℕ → Type 0
Holds f text = f text ≡ true

abbrev pub IsEmpty : List ℕ → Type 0
IsEmpty text = text ≡ []

-- a text with a first byte is not empty, and leaves that at once
pub no_nothing : (b : ℕ) (text : List ℕ) → IsPlace IsEmpty (b ∷ text) 0
no_nothing b text = record {
  within = omega arith;
  outside = λ e. cc;
  goes_on = ([], refl);
  no_more = λ _ (rest, e). cc;
}

module _ (f : List ℕ → Bool) (sign : ℕ) (g : List ℕ → Bool) where
  -- nothing, or the sign and a second part
  abbrev pub Maybe : List ℕ → Type 0
  Maybe = Either IsEmpty (After sign (Holds g))

  pub alone : (a : List ℕ) → Lacks sign a → is_with f sign g a ≡ f a
  alone a p = ap (λ t. are_parts f sign g t (behind sign a)) (before_whole sign a p)
      ∙ ap (are_parts f sign g a) (behind_none sign a p)

  pub with_second : (a b : List ℕ) → Lacks sign a → is_with f sign g (a ++ sign ∷ b) ≡ (f a && g b)
  with_second a b p = ap (λ t. are_parts f sign g t (behind sign (a ++ sign ∷ b))) (before_sign sign a b p)
      ∙ ap (are_parts f sign g a) (behind_sign sign a b p)

  maybe_begins : (text : List ℕ) → Maybe text → Begins sign text
  maybe_begins text (inl none) = inl none
  maybe_begins text (inr after) = inr (after.rest, after.whole)

  pub back : (text : List ℕ) → Holds (is_with f sign g) text → (parts : Cut sign text)
      → Begins sign parts.rest → Both (Holds f) Maybe text
  back text is parts (inl none) =
      let e : text ≡ parts.first = parts.whole ∙ ap (λ t. parts.first ++ t) none ∙ append-nil parts.first in
      record {
        first = parts.first;
        second = [];
        whole = e ∙ sym (append-nil parts.first);
        is_first = sym (alone parts.first parts.cut.lacks) ∙ sym (ap (is_with f sign g) e) ∙ is;
        is_second = inl refl;
      }
  back text is parts (inr (rest, more)) =
      let e : text ≡ parts.first ++ sign ∷ rest = parts.whole ∙ ap (λ t. parts.first ++ t) more in
      let both = and_parts (f parts.first) (g rest)
      (sym (with_second parts.first rest parts.cut.lacks) ∙ sym (ap (is_with f sign g) e) ∙ is) in
      record {
        first = parts.first;
        second = sign ∷ rest;
        whole = e;
        is_first = both.0;
        is_second = inr (record { rest = rest; whole = refl; is = both.1 });
      }

  into : ((t : List ℕ) → f t ≡ true → Lacks sign t) → (text : List ℕ) (both : Both (Holds f) Maybe text)
      → Maybe both.second → Holds (is_with f sign g) text
  into lacks text both (inl none) =
      let e : text ≡ both.first = both.whole ∙ ap (λ t. both.first ++ t) none ∙ append-nil both.first in
      ap (is_with f sign g) e ∙ alone both.first (lacks both.first both.is_first) ∙ both.is_first
  into lacks text both (inr after) =
      let e : text ≡ both.first ++ sign ∷ after.rest = both.whole ∙ ap (λ t. both.first ++ t) after.whole in
      ap (is_with f sign g) e ∙ with_second both.first after.rest (lacks both.first both.is_first)
      ∙ and_from (f both.first) (g after.rest) both.is_first after.is

  pub holds_alone : (text a b : List ℕ) → text ≡ a ++ b → IsBefore sign a b → b ≡ [] → f a ≡ true
      → is_with f sign g text ≡ true
  holds_alone text a b whole before none is =
      ap (is_with f sign g) (whole ∙ ap (λ t. a ++ t) none ∙ append-nil a) ∙ alone a before.lacks ∙ is

  pub holds_both : (text a b r : List ℕ) → text ≡ a ++ b → IsBefore sign a b → b ≡ sign ∷ r → f a ≡ true → g r ≡ true
      → is_with f sign g text ≡ true
  holds_both text a b r whole before more is too =
      ap (is_with f sign g) (whole ∙ ap (λ t. a ++ t) more) ∙ with_second a r before.lacks ∙ and_from (f a) (g r) is too

  module _ (lacks : (t : List ℕ) → f t ≡ true → Lacks sign t) where
    apart : AreApart sign (Holds f) Maybe
    apart = record { lacks = lacks; begins = maybe_begins }

    same : (text : List ℕ) (n : ℕ) → IsPlace (Both (Holds f) Maybe) text n → IsPlace (Holds (is_with f sign g)) text n
    same text n at = same_place (Both (Holds f) Maybe) (Holds (is_with f sign g)) text n
        (λ t both. into lacks t both both.is_second)
        (λ t is. let parts = cut sign t in back t is parts parts.cut.begins) at

    -- the text leaves the grammar in its first part
    pub leaves_first : (text a b : List ℕ) (n : ℕ) → text ≡ a ++ b → IsBefore sign a b → IsPlace (Holds f) a n
        → IsPlace (Holds (is_with f sign g)) text n
    leaves_first text a b n whole before at = same text n (subst (λ t. IsPlace (Both (Holds f) Maybe) t n) (sym whole)
        (in_first_part apart a b n before.lacks before.begins at [] (inl refl)))

    -- or in its second
    pub leaves_second : (text a b : List ℕ) (n m : ℕ) → text ≡ a ++ sign ∷ b → Lacks sign a → f a ≡ true
        → m ≡ length a + suc n → IsPlace (Holds g) b n → IsPlace (Holds (is_with f sign g)) text m
    leaves_second text a b n m whole p is count at =
        let tail : IsPlace (After sign (Holds g)) (sign ∷ b) (suc n) = after_at sign (Holds g) b n at in
        let maybe : IsPlace Maybe (sign ∷ b) (suc n) = either_right IsEmpty (After sign (Holds g)) (sign ∷ b) 0 (suc n)
        (omega arith) (no_nothing sign b) tail in
        let both = in_second apart a (sign ∷ b) (suc n) p (inr (b, refl)) is maybe in
        same text m (subst (λ k. IsPlace (Both (Holds f) Maybe) text k) (sym count)
        (subst (λ t. IsPlace (Both (Holds f) Maybe) t (length a + suc n)) (sym whole) both))
