-- Laws of cutting and filling.
use Rattle.std.proofs.Common.{◌≡◌, ◌≤◌, ◌⊎◌, inl, inr, ℕ, Bool, true, false, cond, ◌||◌, Option, None, Some, List, [], ◌∷◌, ◌++◌, is_some, length, refl, sym, ◌∙◌, ap, append_assoc}
use Rattle.std.specs.Prelude.{◌==◌, nat_le}
use Rattle.std.proofs.lemmas.Bool.{eqb-true, leb-true}
use Rattle.property_text.specs.Segments.{Segment, literal, hole, Place, outside, dollar, inside, with_byte, segments, segments_from}
use Rattle.property_text.specs.Filled.{Filling, prefixed, filled_segments, filled_value, within_size, filled}
use Rattle.property_text.specs.Laws.{written, has_value}

-- what was read and is in no segment yet
abbrev unread : Place → List ℕ
unread outside = []
unread dollar = 36 ∷ []
unread (inside name) = 36 ∷ 123 ∷ name

written-byte : (c : ℕ) (rest : List Segment) → written (with_byte c rest) ≡ c ∷ written rest
written-byte c [] = refl
written-byte c (literal text ∷ rest) = refl
written-byte c (hole name ∷ rest) = refl

written-from : (text : List ℕ) (place : Place) → written (segments_from place text) ≡ unread place ++ text
written-from [] outside = refl
written-from [] dollar = refl
written-from [] (inside name) = refl
written-from (c ∷ text) outside = by (c == 36) refl (written-from text)
  where
    by : (b : Bool) → (c == 36) ≡ b → ((place : Place) → written (segments_from place text) ≡ unread place ++ text) → written (segments_from outside (c ∷ text)) ≡ c ∷ text
    by true e behind = rw e (behind dollar ∙ ap (λ d. d ∷ text) (sym (eqb-true c 36 e)))
    by false e behind = rw e (written-byte c (segments_from outside text) ∙ ap (λ rest. c ∷ rest) (behind outside))
written-from (c ∷ text) dollar = by (c == 123) refl (c == 36) refl (written-from text)
  where
    by : (b : Bool) → (c == 123) ≡ b → (d : Bool) → (c == 36) ≡ d → ((place : Place) → written (segments_from place text) ≡ unread place ++ text) → written (segments_from dollar (c ∷ text)) ≡ 36 ∷ c ∷ text
    by true e d f behind = rw e (behind (inside []) ∙ ap (λ d. 36 ∷ d ∷ text) (sym (eqb-true c 123 e)))
    by false e true f behind = rw (e, f) (written-byte 36 (segments_from dollar text) ∙ ap (λ rest. 36 ∷ rest) (behind dollar) ∙ ap (λ d. 36 ∷ d ∷ text) (sym (eqb-true c 36 f)))
    by false e false f behind = rw (e, f) (written-byte 36 (with_byte c (segments_from outside text)) ∙ ap (λ rest. 36 ∷ rest) (written-byte c (segments_from outside text) ∙ ap (λ rest. c ∷ rest) (behind outside)))
written-from (c ∷ text) (inside name) = by (c == 125) refl (written-from text)
  where
    by : (b : Bool) → (c == 125) ≡ b → ((place : Place) → written (segments_from place text) ≡ unread place ++ text) → written (segments_from (inside name) (c ∷ text)) ≡ 36 ∷ 123 ∷ (name ++ (c ∷ text))
    by true e behind =
        rw e (ap (λ rest. (36 ∷ 123 ∷ (name ++ (125 ∷ []))) ++ rest) (behind outside)
        ∙ ap (λ rest. 36 ∷ 123 ∷ rest) (append_assoc name (125 ∷ []) text)
        ∙ ap (λ d. 36 ∷ 123 ∷ (name ++ (d ∷ text))) (sym (eqb-true c 125 e)))
    by false e behind = rw e (behind (inside (name ++ c ∷ [])) ∙ ap (λ rest. 36 ∷ 123 ∷ rest) (append_assoc name (c ∷ []) text))

pub written-segments : (text : List ℕ) → written (segments text) ≡ text
written-segments text = written-from text outside

module _ (value_of : List ℕ → Option (List ℕ)) where
  filled-unknown : (fill : List ℕ → ℕ → Option Filling) (all : List Segment) (left : ℕ) → has_value value_of all ≡ false → filled_segments value_of fill all left ≡ Some (record { text = written all; left = left })
  filled-unknown fill [] left none = refl
  filled-unknown fill (literal text ∷ rest) left none = ap (prefixed text) (filled-unknown fill rest left none)
  filled-unknown fill (hole name ∷ rest) left none = by (value_of name) refl none (filled-unknown fill rest left)
    where
      by : (value : Option (List ℕ)) → value_of name ≡ value → (is_some value || has_value value_of rest) ≡ false
          → (has_value value_of rest ≡ false → filled_segments value_of fill rest left ≡ Some (record { text = written rest; left = left }))
          → filled_segments value_of fill (hole name ∷ rest) left ≡ Some (record { text = written (hole name ∷ rest); left = left })
      by None e none behind = rw (e, behind none) refl
      by (Some value) e none behind = cc

  same : (b : Bool) (one text : List ℕ) → one ≡ text → cond b one text ≡ text
  same true one text e = e
  same false one text e = refl

  pub filled-stays : (text : List ℕ) → has_value value_of (segments text) ≡ false → filled value_of text ≡ text
  unfolding filled
  filled-stays text none =
      ap (within_size 65536 text) (filled-unknown (filled_value value_of 32) (segments text) 1024 none)
      ∙ same (nat_le (length (written (segments text))) 65536) (written (segments text)) text (written-segments text)

  short : (text : List ℕ) (more : Option Filling) → (within_size 65536 text more ≡ text) ⊎ (length (within_size 65536 text more) ≤ 65536)
  short text None = inl refl
  short text (Some filling) = by (nat_le (length filling.text) 65536) refl
    where
      by : (b : Bool) → nat_le (length filling.text) 65536 ≡ b → (within_size 65536 text (Some filling) ≡ text) ⊎ (length (within_size 65536 text (Some filling)) ≤ 65536)
      by true e = rw e (inr (leb-true (length filling.text) 65536 e))
      by false e = rw e (inl refl)

  pub filled-short : (text : List ℕ) → (filled value_of text ≡ text) ⊎ (length (filled value_of text) ≤ 65536)
  unfolding filled
  filled-short text = short text (filled_segments value_of (filled_value value_of 32) (segments text) 1024)
