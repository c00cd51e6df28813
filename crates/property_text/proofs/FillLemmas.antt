-- What is put at the end, and what goes past a limit.
use Rattle.std.proofs.Common.{◌≡◌, ℕ, zero, suc, ◌+◌, ◌<◌, ◌≤◌, Bool, true, false, Option, None, Some, List, [], ◌∷◌, ◌++◌, length, refl, sym, ◌∙◌, ap, subst, append_assoc, append-nil, length-append, arith}
use Rattle.property_text.specs.Segments.{Segment, literal, hole, with_byte, with_bytes, segments}
use Rattle.std.specs.Prelude.{nat_le}
use Rattle.std.proofs.lemmas.Bool.{le-leb, lt-leb}
use Rattle.property_text.specs.Filled.{Filling, as_written, prefixed, followed, filled_hole, filled_segments, filled_value, within_size, filled}
use Rattle.property_text.specs.Progress.{IsAppended, IsOutcome, IsPast, filling_of}
use Rattle.property_text.specs.declared.fill.Progress.{Progress}

prefixed-nil : (more : Option Filling) → prefixed [] more ≡ more
prefixed-nil None = refl
prefixed-nil (Some filling) = refl

pub prefixed-append : (front text : List ℕ) (more : Option Filling) → prefixed front (prefixed text more) ≡ prefixed (front ++ text) more
prefixed-append front text None = refl
prefixed-append front text (Some filling) = ap (λ whole. Some (record { text = whole; left = filling.left })) (sym (append_assoc front text filling.text))

pub prefixed-followed : (front : List ℕ) (more : Option Filling) (next : ℕ → Option Filling) → prefixed front (followed more next) ≡ followed (prefixed front more) next
prefixed-followed front None next = refl
prefixed-followed front (Some filling) next = prefixed-append front filling.text (next filling.left)

pub past-prefixed : (front : List ℕ) (more : Option Filling) → 65536 < length front → IsPast (prefixed front more)
past-prefixed front None long = tt
past-prefixed front (Some filling) long = omega (arith, length-append front filling.text)

pub past-followed : (more : Option Filling) (next : ℕ → Option Filling) → IsPast more → IsPast (followed more next)
past-followed None next past = tt
past-followed (Some filling) next past = past-prefixed filling.text (next filling.left) past

module _ (value_of : List ℕ → Option (List ℕ)) (fill : List ℕ → ℕ → Option Filling) where
  filled-byte : (c : ℕ) (rest : List Segment) (left : ℕ) → filled_segments value_of fill (with_byte c rest) left ≡ prefixed (c ∷ []) (filled_segments value_of fill rest left)
  filled-byte c [] left = refl
  filled-byte c (literal text ∷ rest) left = sym (prefixed-append (c ∷ []) text (filled_segments value_of fill rest left))
  filled-byte c (hole name ∷ rest) left = refl

  pub filled-bytes : (text : List ℕ) (rest : List Segment) (left : ℕ) → filled_segments value_of fill (with_bytes text rest) left ≡ prefixed text (filled_segments value_of fill rest left)
  filled-bytes [] rest left = sym (prefixed-nil (filled_segments value_of fill rest left))
  filled-bytes (c ∷ text) rest left = filled-byte c (with_bytes text rest) left ∙ ap (prefixed (c ∷ [])) (filled-bytes text rest left) ∙ prefixed-append (c ∷ []) text (filled_segments value_of fill rest left)

  -- up to a hole and with it, behind what is there
  pub filled-hole : (front before name : List ℕ) (all behind : List Segment) (left : ℕ) → all ≡ with_bytes before (hole name ∷ behind)
      → prefixed front (filled_segments value_of fill all left) ≡ followed (prefixed (front ++ before) (filled_hole fill name (value_of name) left)) (filled_segments value_of fill behind)
  filled-hole front before name all behind left e =
      ap (λ segs. prefixed front (filled_segments value_of fill segs left)) e
      ∙ ap (prefixed front) (filled-bytes before (hole name ∷ behind) left)
      ∙ prefixed-append front before (followed (filled_hole fill name (value_of name) left) (filled_segments value_of fill behind))
      ∙ prefixed-followed (front ++ before) (filled_hole fill name (value_of name) left) (filled_segments value_of fill behind)

  -- a hole that fits
  pub filled-next : (front front' before name : List ℕ) (all behind : List Segment) (left left' : ℕ) (after : Filling) → all ≡ with_bytes before (hole name ∷ behind) → front' ≡ front ++ before → left' ≡ left
      → prefixed front' (filled_hole fill name (value_of name) left') ≡ Some after
      → prefixed front (filled_segments value_of fill all left) ≡ prefixed after.text (filled_segments value_of fill behind after.left)
  filled-next front front' before name all behind left left' after e f g h =
      let there : prefixed (front ++ before) (filled_hole fill name (value_of name) left) ≡ Some after = rw (← f, ← g) h in
      filled-hole front before name all behind left e ∙ ap (λ more. followed more (filled_segments value_of fill behind)) there

  -- a text before a hole that is too long
  pub past-before : (front before name : List ℕ) (all behind : List Segment) (left : ℕ) → all ≡ with_bytes before (hole name ∷ behind) → 65536 < length front + length before → IsPast (prefixed front (filled_segments value_of fill all left))
  past-before front before name all behind left e long =
      let longer : 65536 < length (front ++ before) = omega (arith, length-append front before) in
      subst IsPast (sym (filled-hole front before name all behind left e)) (past-followed (prefixed (front ++ before) (filled_hole fill name (value_of name) left)) (filled_segments value_of fill behind) (past-prefixed (front ++ before) (filled_hole fill name (value_of name) left) longer))

  -- a hole that doesn't fit
  pub past-hole : (front front' before name : List ℕ) (all behind : List Segment) (left left' : ℕ) → all ≡ with_bytes before (hole name ∷ behind) → front' ≡ front ++ before → left' ≡ left
      → IsPast (prefixed front' (filled_hole fill name (value_of name) left'))
      → IsPast (prefixed front (filled_segments value_of fill all left))
  past-hole front front' before name all behind left left' e f g past =
      let there : IsPast (prefixed (front ++ before) (filled_hole fill name (value_of name) left)) = rw (← f, ← g) past in
      subst IsPast (sym (filled-hole front before name all behind left e)) (past-followed (prefixed (front ++ before) (filled_hole fill name (value_of name) left)) (filled_segments value_of fill behind) there)

  -- the end of a text, where nothing is left to fill
  pub filled-end : (front text : List ℕ) (all : List Segment) (left : ℕ) → all ≡ with_bytes text [] → prefixed front (filled_segments value_of fill all left) ≡ prefixed front (Some (record { text = text; left = left }))
  filled-end front text all left e =
      ap (λ segs. prefixed front (filled_segments value_of fill segs left)) e
      ∙ ap (prefixed front) (filled-bytes text [] left)
      ∙ ap (λ whole. prefixed front (Some (record { text = whole; left = left }))) (append-nil text)

-- a text that stays
pub outcome-appended : (within : Bool) (before : Progress) (text : List ℕ) (after : Progress) → IsAppended within before text after
    → IsOutcome within (filling_of before) (Some (record { text = text; left = before.left })) (filling_of after)
outcome-appended true before text after put = (rw (put.0, put.1) refl, put.2)
outcome-appended false before text after long = omega (arith, long, length-append before.text text)

-- what is asked for may be said otherwise
pub outcome-same : (within : Bool) (before before' : Filling) (more more' : Option Filling) (after : Filling) → prefixed before.text more ≡ prefixed before'.text more' → IsOutcome within before' more' after → IsOutcome within before more after
outcome-same true before before' more more' after e put = (e ∙ put.0, put.1)
outcome-same false before before' more more' after e past = subst IsPast (sym e) past

-- a value, one level down
pub filled-value : (value_of : List ℕ → Option (List ℕ)) (name value : List ℕ) (depth left lower fewer : ℕ) → value_of name ≡ Some value → depth ≡ suc lower → left ≡ suc fewer
    → filled_hole (filled_value value_of depth) name (value_of name) left ≡ filled_segments value_of (filled_value value_of lower) (segments value) fewer
filled-value value_of name value depth left lower fewer e f g = rw (e, f, g) refl

-- a name without a value
pub unfilled : (value_of : List ℕ → Option (List ℕ)) (fill : List ℕ → ℕ → Option Filling) (name : List ℕ) (left : ℕ) → value_of name ≡ None
    → filled_hole fill name (value_of name) left ≡ Some (record { text = as_written name; left = left })
unfilled value_of fill name left e = rw e refl

-- no value more
pub too_deep : (value_of : List ℕ → Option (List ℕ)) (front name value : List ℕ) (depth left : ℕ) → value_of name ≡ Some value → depth ≡ zero
    → IsPast (prefixed front (filled_hole (filled_value value_of depth) name (value_of name) left))
too_deep value_of front name value depth zero e f = rw e tt
too_deep value_of front name value depth (suc left) e f = rw (e, f) tt

pub too_many : (value_of : List ℕ → Option (List ℕ)) (front name value : List ℕ) (depth left : ℕ) → value_of name ≡ Some value → left ≡ zero
    → IsPast (prefixed front (filled_hole (filled_value value_of depth) name (value_of name) left))
too_many value_of front name value depth left e f = rw (e, f) tt

within-fits : (size : ℕ) (text : List ℕ) (after : Filling) → length after.text ≤ size → within_size size text (Some after) ≡ after.text
within-fits size text after fits = let e : nat_le (length after.text) size ≡ true = le-leb (length after.text) size fits in rw e refl

within-past : (text : List ℕ) (more : Option Filling) → IsPast more → within_size 65536 text more ≡ text
within-past text None past = refl
within-past text (Some filling) past = let e : nat_le (length filling.text) 65536 ≡ false = lt-leb (length filling.text) 65536 past in rw e refl

module _ (value_of : List ℕ → Option (List ℕ)) (text : List ℕ) (before after : Filling) (empty : before.text ≡ []) where
  pub filled-true : IsOutcome true before (filled_segments value_of (filled_value value_of 32) (segments text) 1024) after → after.text ≡ filled value_of text
  unfolding filled
  filled-true put =
      let made : filled_segments value_of (filled_value value_of 32) (segments text) 1024 ≡ Some after = sym (prefixed-nil (filled_segments value_of (filled_value value_of 32) (segments text) 1024)) ∙ rw empty at put.0 in
      sym (within-fits 65536 text after put.1) ∙ ap (within_size 65536 text) (sym made)

  pub filled-false : IsOutcome false before (filled_segments value_of (filled_value value_of 32) (segments text) 1024) after → text ≡ filled value_of text
  unfolding filled
  filled-false past =
      let long : IsPast (filled_segments value_of (filled_value value_of 32) (segments text) 1024) = subst IsPast (prefixed-nil (filled_segments value_of (filled_value value_of 32) (segments text) 1024)) (rw empty at past) in
      sym (within-past text (filled_segments value_of (filled_value value_of 32) (segments text) 1024) long)
