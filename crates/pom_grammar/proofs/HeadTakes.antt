-- What a document spells, the whole reader reads.
use Rattle.std.proofs.Common.{◌≡◌, ℕ, inl, inr, Bool, true, false, cond, ◌||◌, List, [], ◌∷◌, ◌++◌, refl, sym, ◌∙◌, ap, subst, drop, Option, Some, None}
use Rattle.std.specs.Prelude.{◌==◌, codes, nat_lt}
use Rattle.std.specs.Char.{to_ascii_lowercase}
use Rattle.std.proofs.lemmas.Bool.{and_parts, and_from, eq-eqb, eqb-true, cases_Bool, false≢true, or_left, or_right}
use Rattle.std.proofs.lemmas.List.{append_assoc, map-append}
use Rattle.fault_place.specs.Reader.{goes_with, reads}
use Rattle.pom_grammar.specs.declared.encoding.Encoding.{Encoding}
use Rattle.pom_grammar.specs.declared.encoding.Encoding.TheVariants.{Utf8, Ascii, Latin1}
use Rattle.pom_grammar.specs.declared.encoding.Tail.{Tail}
use Rattle.pom_grammar.specs.declared.encoding.Tail.TheVariants.{Whole}
use Rattle.pom_grammar.specs.declared.encoding.Seek.TheVariants.{Nothing}
use Rattle.pom_grammar.specs.declared.tree.Tree.{Tree}
use Rattle.pom_grammar.specs.Characters.{is_empty, begins_with, onto}
use Rattle.pom_grammar.specs.Encodings.{IsText, goes_on, tails, next_tail}
use Rattle.pom_grammar.specs.Document.{Quote, quote_byte, question, ends_from, backward}
use Rattle.std.specs.Str.{bytes_eq}
use Rattle.std.proofs.lemmas.Slice.Eq.{bytes_eq-Decides}
use Rattle.ascii_bytes.specs.Classes.{is_white}
use Rattle.case_table.specs.Rows.{value_at}
use Rattle.pom_grammar.specs.Declarations.{Found, seeking, naming, named, found_from, found_in, lowered, encoding_rows, known, encoding_of, IsDeclaration, declares}
use Rattle.pom_grammar.specs.Machine.{State, between, step, outcome, reader_with}
use Rattle.pom_grammar.specs.Heads.{IsMark, no_mark, marked, IsHead, undeclared, declared, IsDocument, Start, at_start, bracket, after_question, after_x, after_m, after_l, Telling, Reading, begin, mark_one, mark_two, starting, in_declaration, in_body, is_alive, is_finished, told, next_telling, nothing_told, begins_latin1, alive_in, goes_on_from, may_go_on, body_in, expected, next_start, so_far, as_body, body_reading, start_step, read_step, read_outcome, reading_with, document_reader, lifted}
use Rattle.pom_grammar.proofs.Bytes.{tails_more, onto_one}
use Rattle.pom_grammar.proofs.Takes.{goes_on_some, takes}
use Rattle.pom_grammar.proofs.Lives.{ascii_next}
use Rattle.pom_grammar.proofs.HeadKeeps.{found_more, found_question}

-- what is told after a text
abbrev pub tellings : List ℕ → Telling → Telling
tellings [] telling = telling
tellings (c ∷ text) telling = tellings text (next_telling telling c)

tellings_found : (text : List ℕ) (telling : Telling) → (tellings text telling).found ≡ found_from telling.found text
tellings_found [] telling = refl
tellings_found (c ∷ text) telling = tellings_found text (next_telling telling c)

none_on : (e : Encoding) (text : List ℕ) (o : Option Tail) (f : Tail → Option Tail)
    → goes_on (goes_on o f) (λ t. tails e t text) ≡ goes_on o (λ t. goes_on (f t) (λ u. tails e u text))
none_on e text None f = refl
none_on e text (Some tail) f = refl

tellings_utf8 : (text : List ℕ) (telling : Telling)
    → (tellings text telling).utf8 ≡ goes_on telling.utf8 (λ t. tails Utf8 t text)
tellings_utf8 [] telling = go telling.utf8
  where
    go : (o : Option Tail) → o ≡ goes_on o (λ t. Some t)
    go None = refl
    go (Some t) = refl
tellings_utf8 (c ∷ text) telling = tellings_utf8 text (next_telling telling c)
    ∙ none_on Utf8 text telling.utf8 (λ t. next_tail Utf8 t c)

tellings_ascii : (text : List ℕ) (telling : Telling)
    → (tellings text telling).ascii ≡ goes_on telling.ascii (λ t. tails Ascii t text)
tellings_ascii [] telling = go telling.ascii
  where
    go : (o : Option Tail) → o ≡ goes_on o (λ t. Some t)
    go None = refl
    go (Some t) = refl
tellings_ascii (c ∷ text) telling = tellings_ascii text (next_telling telling c)
    ∙ none_on Ascii text telling.ascii (λ t. next_tail Ascii t c)

-- an ASCII text is one in UTF-8
abbrev pub Consistent : Telling → Type 0
Consistent telling = (tail : Tail) → telling.ascii ≡ Some tail → (telling.utf8 ≡ Some Whole) × (tail ≡ Whole)

low_from : (c : ℕ) (tail : Tail) → cond (nat_lt c 128) (Some Whole) None ≡ Some tail
    → (nat_lt c 128 ≡ true) × (tail ≡ Whole)
low_from c tail f =
    elim (cases_Bool (nat_lt c 128)) [
      | inl a ↦ let is : ◌≡◌ {A = Option Tail} (Some Whole) (Some tail) = sym (ap (λ b. cond b (Some Whole) None) a)
          ∙ f in let w : tail ≡ Whole = cc in (a, w)
      | inr a ↦ let no : ◌≡◌ {A = Option Tail} None (Some tail) = sym (ap (λ b. cond b (Some Whole) None) a)
          ∙ f in let never : ⊥ = cc in absurd never
    ]

pub consistent_more : (telling : Telling) (c : ℕ) → Consistent telling → Consistent (next_telling telling c)
consistent_more telling c is tail f =
    let first = goes_on_some telling.ascii (λ t. next_tail Ascii t c) tail f in
    let before = is first.0 first.1 in
    let low = low_from c tail (ap (λ t. next_tail Ascii t c) (sym before.1) ∙ first.2) in
    (ap (λ o. goes_on o (λ t. next_tail Utf8 t c)) before.0 ∙ ascii_next Utf8 c low.0, low.1)

pub record Good (e : Encoding) (text : List ℕ) (telling : Telling) : Type 0 where
  pub encoding : encoding_of (tellings text telling).found ≡ Some e
  pub full : told e (tellings text telling) ≡ Some Whole
  pub consistent : Consistent telling

alive_some : (o : Option Tail) (tail : Tail) → o ≡ Some tail → is_alive o ≡ true
alive_some o tail f = ap is_alive f

begins_shorter : (a b text : List ℕ) → begins_with (a ++ b) text ≡ true → begins_with a text ≡ true
begins_shorter [] b text f = refl
begins_shorter (x ∷ a) b [] f = absurd (false≢true f)
begins_shorter (x ∷ a) b (c ∷ text) f =
    let both = and_parts (c == x) (begins_with (a ++ b) text) f in
    and_from (c == x) (begins_with a text) both.0 (begins_shorter a b text both.1)

pub or_cases : (a b : Bool) → (a || b) ≡ true → (P : Type 0) → (a ≡ true → P) → (b ≡ true → P) → P
or_cases true b f P g h = g refl
or_cases false b f P g h = h f

latin1_shorter : (value more : List ℕ) → begins_latin1 (value ++ more) ≡ true → begins_latin1 value ≡ true
latin1_shorter value more f =
    let split : lowered (value ++ more) ≡ lowered value ++ lowered more = map-append to_ascii_lowercase value more in
    or_cases (begins_with (lowered (value ++ more)) (codes "iso-8859-1"))
    (begins_with (lowered (value ++ more)) (codes "latin1")) f (begins_latin1 value ≡ true)
    (λ g. or_left (begins_with (lowered value) (codes "iso-8859-1")) (begins_with (lowered value) (codes "latin1"))
    (begins_shorter (lowered value) (lowered more) (codes "iso-8859-1")
    (ap (λ x. begins_with x (codes "iso-8859-1")) (sym split) ∙ g)))
    (λ g. or_right (begins_with (lowered value) (codes "iso-8859-1")) (begins_with (lowered value) (codes "latin1"))
    (begins_shorter (lowered value) (lowered more) (codes "latin1")
    (ap (λ x. begins_with x (codes "latin1")) (sym split) ∙ g)))

begins_itself : (name : List ℕ) → begins_with name name ≡ true
begins_itself [] = refl
begins_itself (c ∷ name) = and_from (c == c) (begins_with name name) (eq-eqb c c refl) (begins_itself name)

-- the name of an encoding is that of a row, or stands below it
row_or : (word name : List ℕ) (e : Encoding) (rows : List (List ℕ × Encoding)) (P : Type 0)
    → value_at name ((word, e) ∷ rows) ≡ Some Latin1 → (word ≡ name → e ≡ Latin1 → P)
    → (value_at name rows ≡ Some Latin1 → P) → P
row_or word name e rows P f g h =
    elim (cases_Bool (bytes_eq word name)) [
      | inl same ↦ g ((bytes_eq-Decides word name).0 same)
          (let is : ◌≡◌ {A = Option Encoding} (Some e) (Some Latin1) = rw same at f in cc)
      | inr apart ↦ h (rw apart at f)
    ]

known_latin1 : (value : List ℕ) → known value ≡ Some Latin1 → begins_latin1 value ≡ true
known_latin1 value f =
    let name : List ℕ = lowered value in
    let P : Type 0 = begins_latin1 value ≡ true in
    row_or (codes "ascii") name Ascii (drop 1 encoding_rows) P f (λ is e. absurd (let no : ⊥ = cc in no))
    (λ g1. row_or (codes "iso-8859-1") name Latin1 (drop 2 encoding_rows) P g1
    (λ is e. or_left (begins_with name (codes "iso-8859-1")) (begins_with name (codes "latin1"))
    (subst (λ x. begins_with x (codes "iso-8859-1") ≡ true) is (begins_itself (codes "iso-8859-1"))))
    (λ g2. row_or (codes "latin1") name Latin1 (drop 3 encoding_rows) P g2
    (λ is e. or_right (begins_with name (codes "iso-8859-1")) (begins_with name (codes "latin1"))
    (subst (λ x. begins_with x (codes "latin1") ≡ true) is (begins_itself (codes "latin1"))))
    (λ g3. row_or (codes "us-ascii") name Ascii (drop 4 encoding_rows) P g3 (λ is e. absurd (let no : ⊥ = cc in no))
    (λ g4. row_or (codes "utf-8") name Utf8 (drop 5 encoding_rows) P g4 (λ is e. absurd (let no : ⊥ = cc in no))
    (λ g5. row_or (codes "utf8") name Utf8 [] P g5 (λ is e. absurd (let no : ⊥ = cc in no))
    (λ g6. absurd (let no : ⊥ = cc in no)))))))

pub found_named : (value text : List ℕ) → found_from (named value) text ≡ named value
found_named value [] = refl
found_named value (c ∷ text) = found_named value text

latin1_prefix : (quote : Quote) (value text : List ℕ) → encoding_of (found_from (naming quote value) text) ≡ Some Latin1
    → begins_latin1 value ≡ true
latin1_prefix quote value [] f = let no : ⊥ = cc in absurd no
latin1_prefix quote value (c ∷ text) f =
    elim (cases_Bool (c == quote_byte quote)) [
      | inl a ↦ known_latin1 value
          (sym (ap encoding_of
          (ap (λ b. found_from (cond b (named value) (naming quote (value ++ c ∷ []))) text) a
          ∙ found_named value text)) ∙ f)
      | inr a ↦ latin1_shorter value (c ∷ [])
          (latin1_prefix quote (value ++ c ∷ []) text
          (sym (ap (λ b. encoding_of (found_from (cond b (named value) (naming quote (value ++ c ∷ []))) text)) a) ∙ f))
    ]

-- what is told in an encoding that a longer text has
told_alive : (e : Encoding) (text : List ℕ) (telling : Telling) → told e (tellings text telling) ≡ Some Whole
    → is_alive (told e telling) ≡ true
told_alive Utf8 text telling f = let first =
    goes_on_some telling.utf8 (λ t. tails Utf8 t text) Whole
    (sym (tellings_utf8 text telling) ∙ f) in alive_some telling.utf8 first.0 first.1
told_alive Ascii text telling f = let first =
    goes_on_some telling.ascii (λ t. tails Ascii t text) Whole
    (sym (tellings_ascii text telling) ∙ f) in alive_some telling.ascii first.0 first.1
told_alive Latin1 text telling f = refl

naming_alive : (e : Encoding) (quote : Quote) (value text : List ℕ) (telling : Telling) → Good e text telling
    → telling.found ≡ naming quote value → (begins_latin1 value || is_alive telling.utf8) ≡ true
naming_alive Utf8 quote value text telling good f =
    or_right (begins_latin1 value) (is_alive telling.utf8) (told_alive Utf8 text telling good.full)
naming_alive Ascii quote value text telling good f =
    let first =
    goes_on_some telling.ascii (λ t. tails Ascii t text) Whole (sym (tellings_ascii text telling) ∙ good.full) in
    or_right (begins_latin1 value) (is_alive telling.utf8)
    (alive_some telling.utf8 Whole (good.consistent first.0 first.1).0)
naming_alive Latin1 quote value text telling good f =
    or_left (begins_latin1 value) (is_alive telling.utf8)
    (latin1_prefix quote value text
    (ap (λ x. encoding_of (found_from x text)) (sym f) ∙ ap encoding_of (sym (tellings_found text telling))
    ∙ good.encoding))

named_alive : (e : Encoding) (value text : List ℕ) (telling : Telling) → Good e text telling
    → telling.found ≡ named value → alive_in (known value) telling ≡ true
named_alive e value text telling good f =
    let is : known value ≡ Some e =
    ap encoding_of (sym (tellings_found text telling ∙ ap (λ x. found_from x text) f ∙ found_named value text))
    ∙ good.encoding in
    ap (λ o. alive_in o telling) is ∙ told_alive e text telling good.full

pub good_alive : (e : Encoding) (text : List ℕ) (telling : Telling) → Good e text telling → may_go_on telling ≡ true
good_alive e text telling good = go telling.found refl
  where
    go : (found : Found) → telling.found ≡ found → goes_on_from found telling ≡ true
    go (seeking seek) f = refl
    go (naming quote value) f = naming_alive e quote value text telling good f
    go (named value) f = named_alive e value text telling good f

some_more : (text : List ℕ) → is_empty (text ++ 62 ∷ []) ≡ false
some_more [] = refl
some_more (c ∷ text) = refl

question_whole : (e : Encoding) (text : List ℕ) → IsText e text → tails e Whole (text ++ 63 ∷ []) ≡ Some Whole
question_whole e text is = tails_more e Whole text (63 ∷ []) ∙ ap (λ o. goes_on o (λ t. tails e t (63 ∷ []))) is
    ∙ ap (λ o. goes_on o (λ t. Some t)) (ascii_next e 63 refl)

full_told : (e : Encoding) (text : List ℕ) → IsText e text
    → told e (tellings (text ++ 63 ∷ []) nothing_told) ≡ Some Whole
full_told Utf8 text is = tellings_utf8 (text ++ 63 ∷ []) nothing_told ∙ question_whole Utf8 text is
full_told Ascii text is = tellings_ascii (text ++ 63 ∷ []) nothing_told ∙ question_whole Ascii text is
full_told Latin1 text is = refl

module _ (V : Type 0) (out : Encoding → State → Option V)
    (quiet : (start : Start) → out Utf8 (as_body start) ≡ None) where
  abbrev goes : List ℕ → Reading → Option V
  goes = reads (reading_with V (lifted V out))

  abbrev goes_in : Encoding → List ℕ → State → Option V
  goes_in e = reads (reader_with e V (out e))

  pub body_reads : (e : Encoding) (bytes : List ℕ) (s : State) → goes bytes (in_body e s) ≡ goes_in e bytes s
  body_reads e [] s = refl
  body_reads e (c ∷ bytes) s = go (step e s c) (λ t. body_reads e bytes t)
    where
      go : (o : Option State) → ((t : State) → goes bytes (in_body e t) ≡ goes_in e bytes t)
          → goes_with (body_reading e o) (reads (reading_with V (lifted V out)) bytes)
          ≡ goes_with o (reads (reader_with e V (out e)) bytes)
      go None f = refl
      go (Some t) f = f t

  step_reads : (o : Option State) (bytes : List ℕ)
      → goes_with (body_reading Utf8 o) (reads (reading_with V (lifted V out)) bytes)
      ≡ goes_with o (reads (reader_with Utf8 V (out Utf8)) bytes)
  step_reads None bytes = refl
  step_reads (Some t) bytes = body_reads Utf8 bytes t

  other_reads : (start : Start) (c : ℕ) (rest : List ℕ) → expected start c ≡ false
      → goes (c ∷ rest) (starting start) ≡ goes_in Utf8 (c ∷ rest) (as_body start)
  other_reads start c rest f =
      ap (λ b. goes_with (cond b (Some (next_start start c)) (body_reading Utf8 (step Utf8 (as_body start) c)))
      (reads (reading_with V (lifted V out)) rest)) f ∙ step_reads (step Utf8 (as_body start) c) rest

  literal_reads : (start next : Start) (c wanted : ℕ) (rest : List ℕ) → c ≡ wanted
      → next_start start wanted ≡ starting next
      → expected start wanted ≡ true → step Utf8 (as_body start) wanted ≡ Some (as_body next)
      → goes rest (starting next) ≡ goes_in Utf8 rest (as_body next)
      → goes (c ∷ rest) (starting start) ≡ goes_in Utf8 (c ∷ rest) (as_body start)
  literal_reads start next c wanted rest f g h k on =
      ap (λ x. goes (x ∷ rest) (starting start)) f
      ∙ ap (λ b. goes_with
      (cond b (Some (next_start start wanted)) (body_reading Utf8 (step Utf8 (as_body start) wanted)))
      (reads (reading_with V (lifted V out)) rest)) h
      ∙ ap (goes rest) g
      ∙ on
      ∙ ap (λ o. goes_with o (reads (reader_with Utf8 V (out Utf8)) rest)) (sym k)
      ∙ ap (λ x. goes_in Utf8 (x ∷ rest) (as_body start)) (sym f)

  -- a text that no declaration begins
  start_reads : (rest : List ℕ) (start : Start) → declares (so_far start ++ rest) ≡ false
      → goes rest (starting start) ≡ goes_in Utf8 rest (as_body start)
  start_reads [] start f = sym (quiet start)
  start_reads (c ∷ rest) at_start f =
      elim (cases_Bool (c == 60)) [
        | inl a ↦ literal_reads at_start bracket c 60 rest (eqb-true c 60 a) refl refl refl
            (start_reads rest bracket
            (ap (λ x. declares (x ∷ rest)) (sym (eqb-true c 60 a)) ∙ f))
        | inr a ↦ other_reads at_start c rest a
      ]
  start_reads (c ∷ rest) bracket f =
      elim (cases_Bool (c == 63)) [
        | inl a ↦ literal_reads bracket after_question c 63 rest
            (eqb-true c 63 a) refl refl refl
            (start_reads rest after_question
            (ap (λ x. declares (codes "<" ++ x ∷ rest)) (sym (eqb-true c 63 a))
            ∙ f))
        | inr a ↦ other_reads bracket c rest a
      ]
  start_reads (c ∷ rest) after_question f =
      elim (cases_Bool (c == 120)) [
        | inl a ↦ literal_reads after_question after_x c 120 rest
            (eqb-true c 120 a) refl refl refl
            (start_reads rest after_x
            (ap (λ x. declares (codes "<?" ++ x ∷ rest)) (sym (eqb-true c 120 a))
            ∙ f))
        | inr a ↦ other_reads after_question c rest a
      ]
  start_reads (c ∷ rest) after_x f =
      elim (cases_Bool (c == 109)) [
        | inl a ↦ literal_reads after_x after_m c 109 rest
            (eqb-true c 109 a) refl refl refl
            (start_reads rest after_m
            (ap (λ x. declares (codes "<?x" ++ x ∷ rest)) (sym (eqb-true c 109 a))
            ∙ f))
        | inr a ↦ other_reads after_x c rest a
      ]
  start_reads (c ∷ rest) after_m f =
      elim (cases_Bool (c == 108)) [
        | inl a ↦ literal_reads after_m after_l c 108 rest
            (eqb-true c 108 a) refl refl refl
            (start_reads rest after_l
            (ap (λ x. declares (codes "<?xm" ++ x ∷ rest)) (sym (eqb-true c 108 a))
            ∙ f))
        | inr a ↦ other_reads after_m c rest a
      ]
  start_reads (c ∷ rest) after_l f =
      elim (cases_Bool (is_white c)) [ inl a ↦ absurd (false≢true (sym f ∙ a)) | inr a ↦ other_reads after_l c rest a ]

  begin_reads : (rest : List ℕ) (v : V) → declares rest ≡ false → goes_in Utf8 rest (between None) ≡ Some v
      → goes rest begin ≡ Some v
  begin_reads [] v f g = let none = quiet at_start in let no : ⊥ = cc in absurd no
  begin_reads (c ∷ rest) v f g =
      elim (cases_Bool (c == 239)) [
        | inl a ↦ let no : ◌≡◌ {A = Option V} None (Some v) =
            ap (λ x. goes_in Utf8 (x ∷ rest) (between None)) (sym (eqb-true c 239 a))
            ∙ g in let never : ⊥ = cc in absurd never
        | inr a ↦ ap
            (λ b. goes_with (cond b (Some mark_one) (start_step at_start c))
            (reads (reading_with V (lifted V out)) rest)) a ∙ start_reads (c ∷ rest) at_start f ∙ g
      ]

  -- the text of a declaration
  declaration_reads : (text seen rest : List ℕ) (space : ℕ) (e : Encoding) (telling : Telling) → Good e text telling
      → ends_from question seen (text ++ 62 ∷ []) ≡ true
      → goes (text ++ 62 ∷ rest) (in_declaration space seen telling)
      ≡ goes (62 ∷ rest) (in_declaration space (onto text seen) (tellings text telling))
  declaration_reads [] seen rest space e telling good f = refl
  declaration_reads (c ∷ text) seen rest space e telling good f =
      let next : Good e text (next_telling telling c) =
      record {
        encoding = good.encoding;
        full = good.full;
        consistent =
            consistent_more telling c good.consistent;
      } in
      elim (cases_Bool (begins_with (backward question) (c ∷ seen))) [
        | inl a ↦ absurd
            (false≢true
            (sym (some_more text)
            ∙ sym (ap (λ b. cond b (is_empty (text ++ 62 ∷ [])) (ends_from question (c ∷ seen) (text ++ 62 ∷ []))) a)
            ∙ f))
        | inr a ↦ rw (a, good_alive e text (next_telling telling c) next)
            (declaration_reads text (c ∷ seen) rest space e (next_telling telling c) next
            (sym (ap (λ b. cond b (is_empty (text ++ 62 ∷ []))
            (ends_from question (c ∷ seen) (text ++ 62 ∷ []))) a) ∙ f))
      ]

  -- a declaration
  head_reads : (e : Encoding) (head rest : List ℕ) → IsDeclaration e head
      → goes (head ++ rest) (starting at_start) ≡ goes rest (in_body e (between None))
  head_reads e head rest is =
      let d = is.is_declared in
      let text : List ℕ = is.text ++ 63 ∷ [] in
      let end : text ++ 62 ∷ [] ≡ is.text ++ codes "?>" = append_assoc is.text (63 ∷ []) (62 ∷ []) in
      let long : head ++ rest ≡ codes "<?xml" ++ d.space ∷ (text ++ 62 ∷ rest) = ap (λ x. x ++ rest) d.whole
      ∙ simp append_assoc in
      let good : Good e text nothing_told =
      record {
        encoding = ap encoding_of (tellings_found text nothing_told ∙ found_more (seeking Nothing) is.text 63)
            ∙ found_question (found_in is.text) ∙ is.encoding;
        full = full_told e is.text is.is_text;
        consistent = λ tail f. let w : tail ≡ Whole = cc in (refl, w);
      } in
      let last : begins_with (backward question) (62 ∷ onto text []) ≡ true = rw (onto_one is.text [] 63) refl in
      ap (λ x. goes x (starting at_start)) long
      ∙ (rw d.is_space refl)
      ∙ declaration_reads text [] rest d.space e nothing_told good (ap (ends_from question []) end ∙ d.ends)
      ∙ ap (λ b. goes_with
      (cond b (body_in (encoding_of (tellings text nothing_told).found) (tellings text nothing_told))
      (cond (may_go_on (next_telling (tellings text nothing_told) 62))
      (Some (in_declaration d.space (62 ∷ onto text []) (next_telling (tellings text nothing_told) 62))) None))
      (reads (reading_with V (lifted V out)) rest)) last
      ∙ ap (λ o. goes_with (body_in o (tellings text nothing_told))
      (reads (reading_with V (lifted V out)) rest)) good.encoding
      ∙ ap (λ o. goes_with (cond (is_finished o) (Some (in_body e (between None))) None)
      (reads (reading_with V (lifted V out)) rest)) good.full

  no_mark_reads : (head body : List ℕ) {e : Encoding} → IsDeclaration e head
      → goes (head ++ body) begin ≡ goes (head ++ body) (starting at_start)
  no_mark_reads head body is = let P : List ℕ → Type 0 =
      λ x. goes (x ++ body) begin ≡ goes (x ++ body) (starting at_start) in subst P (sym is.is_declared.whole) refl

  -- what the reader of bodies reads after the head, the whole reader reads
  pub document_reads : (e : Encoding) (mark head body : List ℕ) (v : V) → IsMark mark → IsHead e head body
      → goes_in e body (between None) ≡ Some v → goes (mark ++ (head ++ body)) begin ≡ Some v
  document_reads e mark head body v no_mark (undeclared body1 f) g = begin_reads body1 v f g
  document_reads e mark head body v no_mark (declared e1 head1 body1 is) g = no_mark_reads head1 body1 is
      ∙ head_reads e1 head1 body1 is ∙ body_reads e1 body1 (between None) ∙ g
  document_reads e mark head body v marked (undeclared body1 f) g = start_reads body1 at_start f ∙ g
  document_reads e mark head body v marked (declared e1 head1 body1 is) g = head_reads e1 head1 body1 is
      ∙ body_reads e1 body1 (between None) ∙ g

pub quiet_outcome : (start : Start) → outcome (as_body start) ≡ None
quiet_outcome at_start = refl
quiet_outcome bracket = refl
quiet_outcome after_question = refl
quiet_outcome after_x = refl
quiet_outcome after_m = refl
quiet_outcome after_l = refl

same_outcome : (s : Reading) → lifted Tree (λ e. outcome) s ≡ read_outcome s
same_outcome begin = refl
same_outcome mark_one = refl
same_outcome mark_two = refl
same_outcome (starting start) = refl
same_outcome (in_declaration space seen telling) = refl
same_outcome (in_body e s) = refl

pub same_reads : (text : List ℕ) (s : Reading)
    → reads document_reader text s ≡ reads (reading_with Tree (lifted Tree (λ e. outcome))) text s
same_reads [] s = sym (same_outcome s)
same_reads (c ∷ text) s = go (read_step s c) (λ t. same_reads text t)
  where
    go : (o : Option Reading)
        → ((t : Reading) → reads document_reader text t ≡ reads (reading_with Tree (lifted Tree (λ e. outcome))) text t)
        → goes_with o (reads document_reader text)
        ≡ goes_with o (reads (reading_with Tree (lifted Tree (λ e. outcome))) text)
    go None f = refl
    go (Some t) f = f t

pub document_takes : (bytes : List ℕ) (tree : Tree) → IsDocument bytes tree
    → reads document_reader bytes begin ≡ Some tree
document_takes bytes tree is =
    ap (λ x. reads document_reader x begin) is.whole
    ∙ same_reads (is.mark ++ (is.head ++ is.body)) begin
    ∙ document_reads Tree (λ e. outcome) quiet_outcome is.encoding is.mark is.head is.body tree is.is_mark is.is_head
    (takes is.encoding is.body tree is.is_body)
