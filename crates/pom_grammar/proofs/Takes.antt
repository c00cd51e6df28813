-- What the grammar spells, the reader reads.
use Rattle.std.proofs.Common.{◌≡◌, ℕ, suc, ◌+◌, inl, inr, true, false, cond, not, ◌||◌, List, [], ◌∷◌, ◌++◌, refl, sym, ◌∙◌, ap, subst, arith, Option, Some, None}
use Rattle.std.specs.Prelude.{◌==◌, codes}
use Rattle.std.proofs.lemmas.Bool.{and_parts, eqb-true, eq-eqb, ne_eqb, cases_Bool, false≢true, not-true}
use Rattle.std.proofs.lemmas.List.{append_assoc, append-nil}
use Rattle.std.specs.List.{list_all}
use Rattle.ascii_bytes.specs.Classes.{is_white}
use Rattle.fault_place.specs.Reader.{goes_with, reads}
use Rattle.pom_grammar.specs.declared.encoding.Encoding.{Encoding}
use Rattle.pom_grammar.specs.declared.encoding.Encoding.TheVariants.{Utf8, Ascii, Latin1}
use Rattle.pom_grammar.specs.declared.encoding.Tail.{Tail}
use Rattle.pom_grammar.specs.declared.encoding.Tail.TheVariants.{Whole}
use Rattle.pom_grammar.specs.declared.tree.Tree.{Tree}
use Rattle.pom_grammar.specs.Characters.{is_name_start, is_name_byte, has_some, is_empty, begins_with, skip_space, local, forward, onto}
use Rattle.pom_grammar.specs.Encodings.{IsText, utf8_of, next_tail, tails, goes_on}
use Rattle.pom_grammar.specs.References.{expanded}
use Rattle.pom_grammar.specs.Document.{element, IsName, IsAssigned, Quote, single, double, quote_byte, in_value, IsAttribute, Attributes, no_more, attribute, Mark, dashes, question, brackets, backward, ends_from, IsEnded, opening, Level, top, inner, IsFree, Edge, markup, chars, is_plain, Content, nothing, space, plain, comment, instruction, cdata, empty, child, IsBody}
use Rattle.pom_grammar.specs.Machine.{OpenElement, OpenElements, outside, within, depth, level, has_none, may_open, with_text, with_child, tree_of, Kind, in_run, in_name, in_label, in_quotes, in_marks, spaced, equals, value, closed, State, between, opened, in_segment, in_tag, in_end, after_name, back, stops, tag_step, marked, if_some_tail, outcome, reader_with, body_reader}
use Rattle.pom_grammar.proofs.Keeps.{mark_byte}
use Rattle.pom_grammar.proofs.Bytes.{tails_more, join_skips, forward-onto}

-- a run goes over these bytes
abbrev pub Quiet : Kind → List ℕ → List ℕ → Type 0
Quiet kind seen [] = Unit {0}
Quiet kind seen (c ∷ text) = (stops kind seen c ≡ false) × Quiet kind (c ∷ seen) text

plain_quiet : (seen text : List ℕ) → list_all is_plain text ≡ true → Quiet in_run seen text
plain_quiet seen [] f = tt
plain_quiet seen (c ∷ text) f = let both =
    and_parts (is_plain c) (list_all is_plain text) f in (not-true (c == 60) both.0, plain_quiet (c ∷ seen) text both.1)

name_quiet : (seen text : List ℕ) → list_all is_name_byte text ≡ true → Quiet in_name seen text
name_quiet seen [] f = tt
name_quiet seen (c ∷ text) f = let both =
    and_parts (is_name_byte c) (list_all is_name_byte text) f in (ap not both.0, name_quiet (c ∷ seen) text both.1)

label_quiet : (name seen text : List ℕ) → list_all is_name_byte text ≡ true → Quiet (in_label name) seen text
label_quiet name seen [] f = tt
label_quiet name seen (c ∷ text) f = let both =
    and_parts (is_name_byte c) (list_all is_name_byte text) f in
    (ap not both.0, label_quiet name (c ∷ seen) text both.1)

value_quiet : (quote : Quote) (name seen text : List ℕ) → list_all (in_value quote) text ≡ true
    → Quiet (in_quotes quote name) seen text
value_quiet quote name seen [] f = tt
value_quiet quote name seen (c ∷ text) f = let both =
    and_parts (in_value quote c) (list_all (in_value quote) text) f in
    (ap not both.0, value_quiet quote name (c ∷ seen) text both.1)

-- a space is no byte of a name, nor a sign of markup
pub space_cases : (c : ℕ) (P : ℕ → Type 0) → is_white c ≡ true → P 32 → P 9 → P 13 → P 10 → P c
space_cases c P f p q r s =
    elim (cases_Bool (c == 32)) [
      | inl a ↦ subst P (sym (eqb-true c 32 a)) p
      | inr a ↦ elim (cases_Bool (c == 9)) [
        | inl b ↦ subst P (sym (eqb-true c 9 b)) q
        | inr b ↦ elim (cases_Bool (c == 13)) [
          | inl d ↦ subst P (sym (eqb-true c 13 d)) r
          | inr d ↦ elim (cases_Bool (c == 10)) [
            | inl g ↦ subst P (sym (eqb-true c 10 g)) s
            | inr g ↦ absurd (false≢true (sym (rw (a, b, d, g) refl) ∙ f))
          ]
        ]
      ]
    ]

-- a character is whole before an end mark
pub whole_before : (e : Encoding) (tail next : Tail) → next_tail e tail 62 ≡ Some next → (tail ≡ Whole) × (next ≡ Whole)
whole_before Utf8 Whole next f = let same : ◌≡◌ {A = Tail} next Whole = cc in (refl, same)
whole_before Ascii Whole next f = let same : ◌≡◌ {A = Tail} next Whole = cc in (refl, same)
whole_before Latin1 Whole next f = let same : ◌≡◌ {A = Tail} next Whole = cc in (refl, same)
whole_before Utf8 tail next f = let no : ⊥ = cc in absurd no
whole_before Ascii tail next f = let no : ⊥ = cc in absurd no
whole_before Latin1 tail next f = let no : ⊥ = cc in absurd no

whole_before_bracket : (e : Encoding) (tail next : Tail) → next_tail e tail 93 ≡ Some next
    → (tail ≡ Whole) × (next ≡ Whole)
whole_before_bracket Utf8 Whole next f = let same : ◌≡◌ {A = Tail} next Whole = cc in (refl, same)
whole_before_bracket Ascii Whole next f = let same : ◌≡◌ {A = Tail} next Whole = cc in (refl, same)
whole_before_bracket Latin1 Whole next f = let same : ◌≡◌ {A = Tail} next Whole = cc in (refl, same)
whole_before_bracket Utf8 tail next f = let no : ⊥ = cc in absurd no
whole_before_bracket Ascii tail next f = let no : ⊥ = cc in absurd no
whole_before_bracket Latin1 tail next f = let no : ⊥ = cc in absurd no

-- one ASCII byte is a character
one_byte : (e : Encoding) → (next_tail e Whole 93 ≡ Some Whole) × (next_tail e Whole 62 ≡ Some Whole)
one_byte Utf8 = (refl, refl)
one_byte Ascii = (refl, refl)
one_byte Latin1 = (refl, refl)

pub goes_on_some : (o : Option Tail) (f : Tail → Option Tail) (next : Tail) → goes_on o f ≡ Some next
    → (tail : Tail) × (o ≡ Some tail) × (f tail ≡ Some next)
goes_on_some None f next g = let no : ⊥ = cc in absurd no
goes_on_some (Some tail) f next g = (tail, refl, g)

-- the frame of a name with this content
abbrev pub made : Encoding → List ℕ → List ℕ → List Tree → OpenElement
made e name text children =
    record { name = name; label = utf8_of e (local name); text = skip_space text; children = children }

abbrev pub root_of : List Tree → Option Tree
root_of [] = None
root_of (tree ∷ trees) = Some tree

abbrev pub place_of : Encoding → Level → List ℕ → OpenElements → List ℕ → List Tree → OpenElements
place_of e top name outer text children = outside (root_of children)
place_of e inner name outer text children = within (made e name text children) outer

abbrev pub IsDeep : Level → OpenElements → ℕ → Type 0
IsDeep top outer room = room ≡ 64
IsDeep inner outer room = suc (depth outer) + room ≡ 64

abbrev pub Tagged : List ℕ → Type 0
Tagged [] = ⊥
Tagged (c ∷ rest) = (is_white c || (c == 47 || c == 62)) ≡ true

tagged_cases : (c : ℕ) (P : ℕ → Type 0) → (is_white c || (c == 47 || c == 62)) ≡ true → (is_white c ≡ true → P c) → P 47
    → P 62 → P c
tagged_cases c P f g p q =
    elim (cases_Bool (is_white c)) [
      | inl a ↦ g a
      | inr a ↦ elim (cases_Bool (c == 47)) [
        | inl b ↦ subst P (sym (eqb-true c 47 b)) p
        | inr b ↦ elim (cases_Bool (c == 62)) [
          | inl d ↦ subst P (sym (eqb-true c 62 d)) q
          | inr d ↦ absurd (false≢true (sym (rw (a, b, d) refl) ∙ f))
        ]
      ]
    ]

pub space_no_name : (c : ℕ) → is_white c ≡ true → (is_name_start c ≡ false) × (is_name_byte c ≡ false)
space_no_name c f =
    space_cases c (λ x. (is_name_start x ≡ false) × (is_name_byte x ≡ false)) f (refl, refl) (refl, refl) (refl, refl)
    (refl, refl)

not_empty : (text more : List ℕ) (x : ℕ) → is_empty (text ++ x ∷ more) ≡ false
not_empty [] more x = refl
not_empty (c ∷ text) more x = refl

module _ (e : Encoding) (V : Type 0) (out : State → Option V) where
  abbrev goes : List ℕ → State → Option V
  goes = reads (reader_with e V out)

  run_reads : (kind : Kind) (place : OpenElements) (text seen rest : List ℕ) (tail next : Tail) → Quiet kind seen text
      → tails e tail text ≡ Some next
      → goes (text ++ rest) (in_segment kind place seen tail) ≡ goes rest (in_segment kind place (onto text seen) next)
  run_reads kind place [] seen rest tail next quiet f = let same : tail ≡ next =
      cc in ap (λ t. goes rest (in_segment kind place seen t)) same
  run_reads kind place (c ∷ text) seen rest tail next quiet f =
      rw quiet.0 (go (next_tail e tail c) f (λ mid g. run_reads kind place text (c ∷ seen) rest mid next quiet.1 g))
    where
      go : (o : Option Tail) → goes_on o (λ t. tails e t text) ≡ Some next
          → ((mid : Tail) → tails e mid text ≡ Some next
          → goes (text ++ rest) (in_segment kind place (c ∷ seen) mid)
          ≡ goes rest (in_segment kind place (onto text (c ∷ seen)) next))
          → goes_with (if_some_tail o (λ t. Some (in_segment kind place (c ∷ seen) t)))
          (reads (reader_with e V out) (text ++ rest)) ≡ goes rest (in_segment kind place (onto text (c ∷ seen)) next)
      go None g f = let no : ⊥ = cc in absurd no
      go (Some mid) g f = f mid g

  -- white space after white space in a start tag
  gap_reads : (gap rest name : List ℕ) (place : OpenElements) → list_all is_white gap ≡ true
      → goes (gap ++ rest) (in_tag spaced name place) ≡ goes rest (in_tag spaced name place)
  gap_reads [] rest name place f = refl
  gap_reads (c ∷ gap) rest name place f =
      let both = and_parts (is_white c) (list_all is_white gap) f in
      rw ((space_no_name c both.0).0, both.0) (gap_reads gap rest name place both.1)

  -- after a name, as after a value
  name_ends : (rest seen : List ℕ) (place : OpenElements) → Tagged rest
      → goes rest (in_segment in_name place seen Whole) ≡ goes rest (in_tag closed (forward seen) place)
  name_ends [] seen place f = absurd f
  name_ends (c ∷ rest) seen place f =
      tagged_cases c
      (λ x. goes (x ∷ rest) (in_segment in_name place seen Whole)
      ≡ goes (x ∷ rest) (in_tag closed (forward seen) place)) f
      (λ g. rw ((space_no_name c g).1) refl) refl refl

  closed_gap : (gap rest name : List ℕ) (place : OpenElements) (d : ℕ) → list_all is_white gap ≡ true
      → is_name_start d ≡ false
      → goes (gap ++ d ∷ rest) (in_tag closed name place)
      ≡ goes_with (tag_step e name place d) (reads (reader_with e V out) rest)
  closed_gap [] rest name place d f g = refl
  closed_gap (c ∷ gap) rest name place d f g =
      let both = and_parts (is_white c) (list_all is_white gap) f in
      rw both.0 (gap_reads gap (d ∷ rest) name place both.1 ∙ (rw g refl))

  equals_gap : (left rest name : List ℕ) (place : OpenElements) → list_all is_white left ≡ true
      → goes (left ++ 61 ∷ rest) (in_tag equals name place) ≡ goes rest (in_tag value name place)
  equals_gap [] rest name place f = refl
  equals_gap (c ∷ left) rest name place f =
      let both = and_parts (is_white c) (list_all is_white left) f in
      rw both.0 (equals_gap left rest name place both.1)

  equals_reads : (left rest name seen : List ℕ) (place : OpenElements) → list_all is_white left ≡ true
      → goes (left ++ 61 ∷ rest) (in_segment (in_label name) place seen Whole) ≡ goes rest (in_tag value name place)
  equals_reads [] rest name seen place f = refl
  equals_reads (c ∷ left) rest name seen place f =
      let both = and_parts (is_white c) (list_all is_white left) f in
      rw ((space_no_name c both.0).1, both.0) (equals_gap left rest name place both.1)

  right_gap : (right rest name : List ℕ) (place : OpenElements) (quote : Quote) → list_all is_white right ≡ true
      → goes (right ++ quote_byte quote ∷ rest) (in_tag value name place)
      ≡ goes rest (in_segment (in_quotes quote name) place [] Whole)
  right_gap [] rest name place single f = refl
  right_gap [] rest name place double f = refl
  right_gap (c ∷ right) rest name place quote f =
      let both = and_parts (is_white c) (list_all is_white right) f in
      rw both.0 (right_gap right rest name place quote both.1)

  quote_reads : (rest name seen : List ℕ) (place : OpenElements) (quote : Quote)
      → goes (quote_byte quote ∷ rest) (in_segment (in_quotes quote name) place seen Whole)
      ≡ goes rest (in_tag closed name place)
  quote_reads rest name seen place single = refl
  quote_reads rest name seen place double = refl

  value_reads : (text rest name : List ℕ) (place : OpenElements) (quote : Quote) → list_all (in_value quote) text ≡ true
      → IsText e text
      → goes (text ++ quote_byte quote ∷ rest) (in_segment (in_quotes quote name) place [] Whole)
      ≡ goes rest (in_tag closed name place)
  value_reads text rest name place quote f is =
      run_reads (in_quotes quote name) place text [] (quote_byte quote ∷ rest) Whole Whole
      (value_quiet quote name [] text f) is ∙ quote_reads rest name (onto text []) place quote

  label_reads : (label rest name : List ℕ) (place : OpenElements) → IsName e label
      → goes (label ++ rest) (in_tag spaced name place)
      ≡ goes rest (in_segment (in_label name) place (onto label []) Whole)
  label_reads [] rest name place is = absurd (false≢true is.named)
  label_reads (b ∷ label) rest name place is =
      let both = and_parts (is_name_start b) (list_all is_name_byte label) is.named in
      let first = goes_on_some (next_tail e Whole b) (λ t. tails e t label) Whole is.is_text in
      rw (both.0, first.1)
      (run_reads (in_label name) place label (b ∷ []) rest first.0 Whole
      (label_quiet name (b ∷ []) label both.1) first.2)

  assigned_reads : (bytes rest name : List ℕ) (place : OpenElements) (quote : Quote) → IsAssigned e bytes
      → goes (bytes ++ quote_byte quote ∷ rest) (in_tag spaced name place)
      ≡ goes rest (in_segment (in_quotes quote name) place [] Whole)
  assigned_reads bytes rest name place quote is =
      let long : bytes ++ quote_byte quote ∷ rest
      ≡ is.name ++ (is.left ++ 61 ∷ (is.right ++ quote_byte quote ∷ rest)) =
      ap (λ x. x ++ quote_byte quote ∷ rest) is.whole ∙ simp append_assoc in
      ap (λ x. goes x (in_tag spaced name place)) long
      ∙ label_reads is.name (is.left ++ 61 ∷ (is.right ++ quote_byte quote ∷ rest)) name place is.is_name
      ∙ equals_reads is.left (is.right ++ quote_byte quote ∷ rest) name (onto is.name []) place is.left_space
      ∙ right_gap is.right rest name place quote is.right_space

  some_gap : (gap rest name : List ℕ) (place : OpenElements) → has_some gap ≡ true → list_all is_white gap ≡ true
      → goes (gap ++ rest) (in_tag closed name place) ≡ goes rest (in_tag spaced name place)
  some_gap [] rest name place f g = absurd (false≢true f)
  some_gap (c ∷ gap) rest name place f g =
      let both = and_parts (is_white c) (list_all is_white gap) g in
      rw both.0 (gap_reads gap rest name place both.1)

  attribute_reads : (bytes rest name : List ℕ) (place : OpenElements) → IsAttribute e bytes
      → goes (bytes ++ rest) (in_tag closed name place) ≡ goes rest (in_tag closed name place)
  attribute_reads bytes rest name place is =
      let q : ℕ = quote_byte is.quote in
      let long : bytes ++ rest ≡ is.gap ++ (is.assigned ++ q ∷ (is.value ++ q ∷ rest)) = ap (λ x. x ++ rest) is.whole
      ∙ simp append_assoc in
      ap (λ x. goes x (in_tag closed name place)) long
      ∙ some_gap is.gap (is.assigned ++ q ∷ (is.value ++ q ∷ rest)) name place is.some_space is.is_gap
      ∙ assigned_reads is.assigned (is.value ++ q ∷ rest) name place is.quote is.is_assigned
      ∙ value_reads is.value rest name place is.quote is.is_value is.is_text

  attribute_tagged : (bytes rest : List ℕ) → IsAttribute e bytes → Tagged (bytes ++ rest)
  attribute_tagged bytes rest is = let P : List ℕ → Type 0 =
      λ x. Tagged (x ++ rest) in subst P (sym is.whole)
      (go is.gap (is.assigned ++ quote_byte is.quote ∷ (is.value ++ quote_byte is.quote ∷ [])) is.some_space is.is_gap)
    where
      go : (gap more : List ℕ) → has_some gap ≡ true → list_all is_white gap ≡ true → Tagged ((gap ++ more) ++ rest)
      go [] more f g = absurd (false≢true f)
      go (c ∷ gap) more f g = let both = and_parts (is_white c) (list_all is_white gap) g in rw both.0 refl

  attributes_read : (bytes rest name : List ℕ) (place : OpenElements) (s : State) → Attributes e bytes → Tagged rest
      → ((more : List ℕ) → Tagged more → goes more s ≡ goes more (in_tag closed name place))
      → goes (bytes ++ rest) s ≡ goes rest (in_tag closed name place)
  attributes_read bytes rest name place s no_more f g = g rest f
  attributes_read bytes rest name place s (attribute prefix one are is) f g =
      ap (λ x. goes x s) (append_assoc prefix one rest)
      ∙ attributes_read prefix (one ++ rest) name place s are (attribute_tagged one rest is) g
      ∙ attribute_reads one rest name place is

  gap_tagged : (gap rest : List ℕ) (d : ℕ) → list_all is_white gap ≡ true → Tagged (d ∷ rest) → Tagged (gap ++ d ∷ rest)
  gap_tagged [] rest d f g = g
  gap_tagged (c ∷ gap) rest d f g = let both = and_parts (is_white c) (list_all is_white gap) f in rw both.0 refl

  name_reads : (name rest : List ℕ) (place : OpenElements) → IsName e name → may_open place ≡ true
      → goes (name ++ rest) (opened place) ≡ goes rest (in_segment in_name place (onto name []) Whole)
  name_reads [] rest place is free = absurd (false≢true is.named)
  name_reads (b ∷ name) rest place is free =
      let both = and_parts (is_name_start b) (list_all is_name_byte name) is.named in
      let first = goes_on_some (next_tail e Whole b) (λ t. tails e t name) Whole is.is_text in
      rw (both.0, free, first.1)
      (run_reads in_name place name (b ∷ []) rest first.0 Whole (name_quiet (b ∷ []) name both.1) first.2)

  -- a start tag after its bracket, up to what ends it
  pub tag_reads : (name attributes gap rest : List ℕ) (place : OpenElements) (d : ℕ) → IsName e name
      → Attributes e attributes → list_all is_white gap ≡ true → may_open place ≡ true → is_name_start d ≡ false
      → Tagged (d ∷ rest)
      → goes (name ++ (attributes ++ (gap ++ d ∷ rest))) (opened place)
      ≡ goes_with (tag_step e name place d) (reads (reader_with e V out) rest)
  tag_reads name attributes gap rest place d is are is_gap free f g =
      let same : forward (onto name []) ≡ name = forward-onto name [] in
      name_reads name (attributes ++ (gap ++ d ∷ rest)) place is free
      ∙ attributes_read attributes (gap ++ d ∷ rest) (forward (onto name [])) place
      (in_segment in_name place (onto name []) Whole) are (gap_tagged gap rest d is_gap g)
      (λ more h. name_ends more (onto name []) place h)
      ∙ closed_gap gap rest (forward (onto name [])) place d is_gap f
      ∙ ap (λ n. goes_with (tag_step e n place d) (reads (reader_with e V out) rest)) same

  after_reads : (gap rest : List ℕ) (frame : OpenElement) (outer : OpenElements) → list_all is_white gap ≡ true
      → goes (gap ++ 62 ∷ rest) (after_name frame outer) ≡ goes rest (back (with_child outer (tree_of frame)))
  after_reads [] rest frame outer f = refl
  after_reads (c ∷ gap) rest frame outer f =
      let both = and_parts (is_white c) (list_all is_white gap) f in
      rw both.0 (after_reads gap rest frame outer both.1)

  pub left_reads : (left done gap rest : List ℕ) (frame : OpenElement) (outer : OpenElements)
      → list_all is_white gap ≡ true
      → goes (left ++ (gap ++ 62 ∷ rest)) (in_end done left frame outer)
      ≡ goes rest (back (with_child outer (tree_of frame)))
  left_reads [] done [] rest frame outer f = refl
  left_reads [] done (c ∷ gap) rest frame outer f =
      let both = and_parts (is_white c) (list_all is_white gap) f in
      rw both.0 (after_reads gap rest frame outer both.1)
  left_reads (b ∷ left) done gap rest frame outer f =
      rw (eq-eqb b b refl) (left_reads left (done ++ b ∷ []) gap rest frame outer f)

  body_reads : (mark : Mark) (place : OpenElements) (body seen rest : List ℕ) (tail : Tail)
      → ((x : List ℕ) → marked e mark place x ≡ Some (back place)) → ends_from mark seen body ≡ true
      → tails e tail body ≡ Some Whole
      → goes (body ++ rest) (in_segment (in_marks mark) place seen tail) ≡ goes rest (back place)
  body_reads mark place [] seen rest tail m f is = absurd (false≢true f)
  body_reads mark place (c ∷ []) seen rest tail m f is =
      elim (cases_Bool (begins_with (backward mark) (c ∷ seen))) [
        | inl ends ↦
            let first = goes_on_some (next_tail e tail c) (λ t. Some t) Whole is in
            let bracket = mark_byte e mark seen c ends in
            let whole = whole_before e tail first.0 (ap (next_tail e tail) (sym bracket) ∙ first.1) in
            rw (ends, whole.0, m seen) refl
        | inr not_yet ↦ absurd (false≢true (sym (ap (λ b. cond b true false) not_yet) ∙ f))
      ]
  body_reads mark place (c ∷ (d ∷ body)) seen rest tail m f is =
      elim (cases_Bool (begins_with (backward mark) (c ∷ seen))) [
        | inl ends ↦ absurd (false≢true (sym (ap (λ b. cond b false (ends_from mark (c ∷ seen) (d ∷ body))) ends) ∙ f))
        | inr not_yet ↦
            let on : ends_from mark (c ∷ seen) (d ∷ body) ≡ true =
            sym (ap (λ b. cond b false (ends_from mark (c ∷ seen) (d ∷ body))) not_yet) ∙ f in
            let first = goes_on_some (next_tail e tail c) (λ t. tails e t (d ∷ body)) Whole is in
            rw (not_yet, first.1) (body_reads mark place (d ∷ body) (c ∷ seen) rest first.0 m on first.2)
      ]

  quiet_before : (mark : Mark) (seen text more : List ℕ) (x : ℕ) → ends_from mark seen (text ++ x ∷ more) ≡ true
      → Quiet (in_marks mark) seen text
  quiet_before mark seen [] more x f = tt
  quiet_before mark seen (c ∷ text) more x f =
      elim (cases_Bool (begins_with (backward mark) (c ∷ seen))) [
        | inl ends ↦ absurd
            (false≢true
            (sym (not_empty text more x)
            ∙ sym (ap (λ b. cond b (is_empty (text ++ x ∷ more)) (ends_from mark (c ∷ seen) (text ++ x ∷ more))) ends)
            ∙ f))
        | inr not_yet ↦ (
          not_yet,
          quiet_before mark (c ∷ seen) text more x
              (sym (ap (λ b. cond b (is_empty (text ++ x ∷ more))
              (ends_from mark (c ∷ seen) (text ++ x ∷ more))) not_yet) ∙ f),
        )
      ]

  before_end : (tail : Tail) → tails e tail (codes "]]>") ≡ Some Whole → tail ≡ Whole
  before_end tail f = let first =
      goes_on_some (next_tail e tail 93) (λ t. tails e t (93 ∷ (62 ∷ []))) Whole f in
      (whole_before_bracket e tail first.0 first.1).0

  body_text : (body : List ℕ) → IsText e (body ++ codes "]]>") → IsText e body
  body_text body is =
      let first =
      goes_on_some (tails e Whole body) (λ t. tails e t (codes "]]>")) Whole
      (sym (tails_more e Whole body (codes "]]>")) ∙ is) in
      first.1 ∙ ap Some (before_end first.0 first.2)

  end_of_cdata : (rest seen : List ℕ) (frame : OpenElement) (outer : OpenElements)
      → goes (codes "]]>" ++ rest) (in_segment (in_marks brackets) (within frame outer) seen Whole)
      ≡ goes rest (back (within (with_text frame (utf8_of e (forward seen))) outer))
  end_of_cdata rest seen frame outer = rw ((one_byte e).0, (one_byte e).0) refl

  cdata_reads : (body rest : List ℕ) (frame : OpenElement) (outer : OpenElements)
      → IsEnded e brackets (body ++ codes "]]>")
      → goes ((body ++ codes "]]>") ++ rest) (in_segment (in_marks brackets) (within frame outer) [] Whole)
      ≡ goes rest (back (within (with_text frame (utf8_of e body)) outer))
  cdata_reads body rest frame outer is =
      ap (λ x. goes x (in_segment (in_marks brackets) (within frame outer) [] Whole))
      (append_assoc body (codes "]]>") rest)
      ∙ run_reads (in_marks brackets) (within frame outer) body [] (codes "]]>" ++ rest) Whole Whole
      (quiet_before brackets [] body (93 ∷ (62 ∷ [])) 93 is.ends) (body_text body is.is_text)
      ∙ end_of_cdata rest (onto body []) frame outer
      ∙ ap (λ x. goes rest (back (within (with_text frame (utf8_of e x)) outer))) (forward-onto body [])

  -- what is read of a content, up to markup or up to the bracket after characters
  abbrev Reads : Edge → List ℕ → OpenElements → OpenElements → Type 0
  Reads markup bytes from to = (rest : List ℕ) → goes (bytes ++ rest) (back from) ≡ goes rest (back to)
  Reads chars bytes from to = (rest : List ℕ) → goes (bytes ++ 60 ∷ rest) (back from) ≡ goes rest (opened to)

  spaces_read : (run rest : List ℕ) (root : Option Tree) → list_all is_white run ≡ true
      → goes (run ++ rest) (between root) ≡ goes rest (between root)
  spaces_read [] rest root f = refl
  spaces_read (c ∷ run) rest root f =
      let both = and_parts (is_white c) (list_all is_white run) f in
      rw both.0 (spaces_read run rest root both.1)

  plain_reads : (run rest : List ℕ) (frame : OpenElement) (outer : OpenElements) → list_all is_plain run ≡ true
      → IsText e run
      → goes (run ++ 60 ∷ rest) (back (within frame outer))
      ≡ goes rest (opened (within (with_text frame (expanded e run)) outer))
  plain_reads run rest frame outer f is =
      run_reads in_run (within frame outer) run [] (60 ∷ rest) Whole Whole (plain_quiet [] run f) is
      ∙ ap (λ x. goes rest (opened (within (with_text frame (expanded e x)) outer))) (forward-onto run [])

  -- an element may open where there is room
  free_here : (level : Level) (room : ℕ) (name text : List ℕ) (outer : OpenElements) (children : List Tree)
      → IsDeep level outer (suc room) → IsFree level children
      → may_open (place_of e level name outer text children) ≡ true
  free_here top room name text outer children deep free = ap (λ cs. has_none (root_of cs)) free
  free_here inner room name text outer children deep free =
      let apart : (depth outer == 63) ≡ false =
      ne_eqb (depth outer) 63 (λ same. let no : ⊥ = omega (arith, deep, same) in no) in
      ap not apart

  deep_here : (level : Level) (room : ℕ) (name text : List ℕ) (outer : OpenElements) (children : List Tree)
      → IsDeep level outer (suc room) → suc (depth (place_of e level name outer text children)) + room ≡ 64
  deep_here top room name text outer children deep = omega (arith, deep)
  deep_here inner room name text outer children deep = omega (arith, deep)

  child_here : (level : Level) (name text : List ℕ) (outer : OpenElements) (children : List Tree) (tree : Tree)
      → IsFree level children
      → with_child (place_of e level name outer text children) tree
      ≡ place_of e level name outer text (children ++ tree ∷ [])
  child_here top name text outer children tree free = ap (λ cs. outside (root_of (cs ++ tree ∷ []))) (sym free)
  child_here inner name text outer children tree free = refl

  pub content_reads : (level : Level) (room : ℕ) (edge : Edge) (bytes text : List ℕ) (children : List Tree)
      (name : List ℕ) (outer : OpenElements)
      → IsDeep level outer room → Content e level room edge bytes text children
      → Reads edge bytes (place_of e level name outer [] []) (place_of e level name outer text children)
  content_reads level room edge bytes text children name outer deep (nothing level1 room1) = λ rest. refl
  content_reads level room edge bytes text children name outer deep (space room1 prefix text1 run children1 is in_it) =
      λ rest.
      ap (λ x. goes x (between None)) (append_assoc prefix run (60 ∷ rest))
      ∙ content_reads top room1 markup prefix text1 children1 name outer deep in_it (run ++ 60 ∷ rest)
      ∙ spaces_read run (60 ∷ rest) (root_of children1) is
  content_reads level room edge bytes text children name outer deep
      (plain room1 prefix text1 run children1 is is_text in_it) = λ rest.
      ap (λ x. goes x (back (within (made e name [] []) outer))) (append_assoc prefix run (60 ∷ rest))
      ∙ content_reads inner room1 markup prefix text1 children1 name outer deep in_it (run ++ 60 ∷ rest)
      ∙ plain_reads run rest (made e name text1 children1) outer is is_text
      ∙ ap (λ t. goes rest
      (opened (within
      (record { name = name; label = utf8_of e (local name); text = t; children = children1 }) outer)))
      (join_skips text1 (expanded e run))
  content_reads level room edge bytes text children name outer deep
      (comment level1 room1 prefix text1 body children1 is in_it) = λ rest.
      ap (λ x. goes x (back (place_of e level1 name outer [] []))) (append_assoc prefix (opening dashes ++ body) rest)
      ∙ content_reads level1 room1 chars prefix text1 children1 name outer deep in_it
      (33 ∷ (45 ∷ (45 ∷ (body ++ rest))))
      ∙ body_reads dashes (place_of e level1 name outer text1 children1) body [] rest Whole
      (λ x. refl) is.ends is.is_text
  content_reads level room edge bytes text children name outer deep
      (instruction level1 room1 prefix text1 body children1 is in_it) = λ rest.
      ap (λ x. goes x (back (place_of e level1 name outer [] []))) (append_assoc prefix (opening question ++ body) rest)
      ∙ content_reads level1 room1 chars prefix text1 children1 name outer deep in_it (63 ∷ (body ++ rest))
      ∙ body_reads question (place_of e level1 name outer text1 children1) body [] rest Whole
      (λ x. refl) is.ends is.is_text
  content_reads level room edge bytes text children name outer deep (cdata room1 prefix text1 body children1 is in_it) =
      λ rest.
      ap (λ x. goes x (back (within (made e name [] []) outer)))
      (append_assoc prefix (opening brackets ++ (body ++ codes "]]>")) rest)
      ∙ content_reads inner room1 chars prefix text1 children1 name outer deep in_it
      (codes "![CDATA[" ++ ((body ++ codes "]]>") ++ rest))
      ∙ cdata_reads body rest (made e name text1 children1) outer is
      ∙ ap (λ t. goes rest
      (back (within
      (record { name = name; label = utf8_of e (local name); text = t; children = children1 }) outer)))
      (join_skips text1 (utf8_of e body))
  content_reads level room edge bytes text children name outer deep
      (empty level1 room1 prefix text1 own tag children1 is free in_it) = λ rest.
      let place : OpenElements = place_of e level1 name outer text1 children1 in
      let long : (prefix ++ (tag ++ codes "/>")) ++ rest
      ≡ prefix ++ 60 ∷ (own ++ (is.attributes ++ (is.gap ++ 47 ∷ (62 ∷ rest)))) =
      ap (λ t. (prefix ++ (t ++ codes "/>")) ++ rest) is.whole ∙ simp append_assoc in
      ap (λ x. goes x (back (place_of e level1 name outer [] []))) long
      ∙ content_reads level1 (suc room1) chars prefix text1 children1 name outer deep in_it
      (own ++ (is.attributes ++ (is.gap ++ 47 ∷ (62 ∷ rest))))
      ∙ tag_reads own is.attributes is.gap (62 ∷ rest) place 47 is.is_name is.are_attributes is.is_gap
      (free_here level1 room1 name text1 outer children1 deep free) refl refl
      ∙ ap (λ p. goes rest (back p)) (child_here level1 name text1 outer children1 (element e own [] []) free)
  content_reads level room edge bytes text children name outer deep
      (child level1 room1 prefix text1 own tag within1 own_text end children1 grand is is_end free in_it in_child) =
      λ rest.
      let place : OpenElements = place_of e level1 name outer text1 children1 in
      let long : (prefix ++ (tag ++ 62 ∷ (within1 ++ end))) ++ rest
      ≡ prefix ++ 60 ∷
      (own ++ (is.attributes ++ (is.gap ++ 62 ∷ (within1 ++ 60 ∷ (47 ∷ (own ++ (is_end.gap ++ 62 ∷ rest))))))) =
      ap (λ t. (prefix ++ (t ++ 62 ∷ (within1 ++ end))) ++ rest) is.whole
      ∙ ap (λ t. (prefix ++ ((60 ∷ (own ++ (is.attributes ++ is.gap))) ++ 62 ∷ (within1 ++ t)))
      ++ rest) is_end.whole ∙ simp append_assoc in
      ap (λ x. goes x (back (place_of e level1 name outer [] []))) long
      ∙ content_reads level1 (suc room1) chars prefix text1 children1 name outer deep in_it
      (own ++ (is.attributes ++ (is.gap ++ 62 ∷ (within1 ++ 60 ∷ (47 ∷ (own ++ (is_end.gap ++ 62 ∷ rest)))))))
      ∙ tag_reads own is.attributes is.gap
      (within1 ++ 60 ∷ (47 ∷ (own ++ (is_end.gap ++ 62 ∷ rest)))) place 62 is.is_name is.are_attributes is.is_gap
      (free_here level1 room1 name text1 outer children1 deep free) refl refl
      ∙ content_reads inner room1 chars within1 own_text grand own place
      (deep_here level1 room1 name text1 outer children1 deep) in_child (47 ∷ (own ++ (is_end.gap ++ 62 ∷ rest)))
      ∙ left_reads own [] is_end.gap rest (made e own own_text grand) place is_end.is_gap
      ∙ ap (λ p. goes rest (back p)) (child_here level1 name text1 outer children1 (element e own own_text grand) free)

-- the white space at the end
root_end : (e : Encoding) (room : ℕ) (bytes text : List ℕ) (tree : Tree) (trees : List Tree) → room ≡ 64
    → Content e top room chars bytes text (tree ∷ trees) → reads (body_reader e) bytes (between None) ≡ Some tree
root_end e room bytes text tree trees deep (space room1 prefix text1 run children1 is in_it) =
    content_reads e Tree outcome top room1 markup prefix text1 (tree ∷ trees) [] (outside None) deep in_it run
    ∙ ap (λ x. reads (body_reader e) x (between (Some tree))) (sym (append-nil run))
    ∙ spaces_read e Tree outcome run [] (Some tree) is

pub takes : (e : Encoding) (bytes : List ℕ) (tree : Tree) → IsBody e bytes tree
    → reads (body_reader e) bytes (between None) ≡ Some tree
takes e bytes tree is = root_end e 64 bytes [] tree [] refl is
