-- Each state of the reader goes on to a document.
use Rattle.std.proofs.Common.{◌≡◌, ℕ, inl, inr, Bool, true, false, cond, ◌||◌, List, [], ◌∷◌, ◌++◌, refl, sym, ◌∙◌, ap, Option, Some, None}
use Rattle.std.specs.Prelude.{◌==◌, codes, nat_lt}
use Rattle.std.proofs.lemmas.Bool.{eq-eqb, ne_eqb, cases_Bool, false≢true}
use Rattle.std.proofs.lemmas.List.{append_assoc}
use Rattle.fault_place.specs.Reader.{reads}
use Rattle.pom_grammar.specs.declared.encoding.Encoding.{Encoding}
use Rattle.pom_grammar.specs.declared.encoding.Encoding.TheVariants.{Utf8, Ascii, Latin1}
use Rattle.pom_grammar.specs.declared.encoding.Tail.{Tail}
use Rattle.pom_grammar.specs.declared.encoding.Tail.TheVariants.{Whole, One, Two, Three, AfterE0, AfterEd, AfterF0, AfterF4}
use Rattle.pom_grammar.specs.declared.tree.Tree.{Tree}
use Rattle.pom_grammar.specs.Characters.{is_high, is_name_start, has_some, forward}
use Rattle.pom_grammar.specs.Encodings.{utf8_of, next_tail, tails, goes_on}
use Rattle.pom_grammar.specs.References.{expanded}
use Rattle.pom_grammar.specs.Document.{Quote, single, double, Mark, dashes, question, brackets}
use Rattle.pom_grammar.specs.Machine.{OpenElement, OpenElements, outside, within, with_text, with_child, fresh, tree_of, Kind, in_run, in_name, in_label, in_quotes, in_marks, Spot, spaced, equals, value, closed, after_slash, State, between, opened, bang, after_dash, in_cdata, in_segment, in_tag, in_end, after_name, back, stops, outcome, body_reader, MayStand, FitsKind, Fits}
use Rattle.pom_grammar.proofs.Takes.{left_reads}

-- bytes that tell a test apart are two
pub apart : (p : ℕ → Bool) (b k : ℕ) → p b ≡ true → p k ≡ false → (b == k) ≡ false
apart p b k e f = ne_eqb b k (λ same. false≢true (sym f ∙ ap p (sym same) ∙ e))

or_true : (b : Bool) → (b || true) ≡ true
or_true true = refl
or_true false = refl

pub high_in_name : (c : ℕ) → is_high c ≡ true → is_name_start c ≡ true
high_in_name c f = rw f (simp or_true refl)

-- a byte past ASCII stops no run
pub high_quiet : (kind : Kind) (seen : List ℕ) (c : ℕ) → is_high c ≡ true → stops kind seen c ≡ false
high_quiet in_run seen c f = apart is_high c 60 f refl
high_quiet in_name seen c f = rw (high_in_name c f) refl
high_quiet (in_label name) seen c f = rw (high_in_name c f) refl
high_quiet (in_quotes single name) seen c f = rw (apart is_high c 39 f refl, apart is_high c 60 f refl) refl
high_quiet (in_quotes double name) seen c f = rw (apart is_high c 34 f refl, apart is_high c 60 f refl) refl
high_quiet (in_marks dashes) seen c f = rw (apart is_high c 62 f refl) refl
high_quiet (in_marks question) seen c f = rw (apart is_high c 62 f refl) refl
high_quiet (in_marks brackets) seen c f = rw (apart is_high c 62 f refl) refl

-- an ASCII byte is a character
pub ascii_next : (e : Encoding) (c : ℕ) → nat_lt c 128 ≡ true → next_tail e Whole c ≡ Some Whole
ascii_next Utf8 c f = rw f refl
ascii_next Ascii c f = rw f refl
ascii_next Latin1 c f = refl

ascii_whole : (bytes : List ℕ) (tail : Tail) → tails Ascii Whole bytes ≡ Some tail → tail ≡ Whole
ascii_whole [] tail f = let same : tail ≡ Whole = cc in same
ascii_whole (c ∷ bytes) tail f =
    elim (cases_Bool (nat_lt c 128)) [
      | inl low ↦ ascii_whole bytes tail
          (sym (ap (λ b. goes_on (cond b (Some Whole) None) (λ t. tails Ascii t bytes)) low) ∙ f)
      | inr high ↦ let none : ◌≡◌ {A = Option Tail} None (Some tail) =
          sym (ap (λ b. goes_on (cond b (Some Whole) None) (λ t. tails Ascii t bytes)) high)
          ∙ f in let no : ⊥ = cc in absurd no
    ]

latin1_whole : (bytes : List ℕ) (tail : Tail) → tails Latin1 Whole bytes ≡ Some tail → tail ≡ Whole
latin1_whole [] tail f = let same : tail ≡ Whole = cc in same
latin1_whole (c ∷ bytes) tail f = latin1_whole bytes tail f

module _ (e : Encoding) where
  abbrev goes : List ℕ → State → Option Tree
  goes = reads (body_reader e)

  abbrev pub Lives : State → Type 0
  Lives s = (rest : List ℕ) × (tree : Tree) × (reads (body_reader e) rest s ≡ Some tree)

  lead : (s t : State) (more : List ℕ) → ((rest : List ℕ) → goes (more ++ rest) s ≡ goes rest t) → Lives t → Lives s
  lead s t more f on = (more ++ on.0, on.1, f on.0 ∙ on.2)

  -- the last character of a run is made whole
  record Filled (kind : Kind) (place : OpenElements) (seen : List ℕ) (tail : Tail) : Type 0 where
    more : List ℕ
    then : List ℕ
    fills : (rest : List ℕ)
        → goes (more ++ rest) (in_segment kind place seen tail) ≡ goes rest (in_segment kind place then Whole)

fills_utf8 : (kind : Kind) (place : OpenElements) (seen : List ℕ) (tail : Tail) → Filled Utf8 kind place seen tail
fills_utf8 kind place seen Whole = record { more = []; then = seen; fills = λ rest. refl }
fills_utf8 kind place seen One =
    record { more = 128 ∷ []; then = 128 ∷ seen; fills = λ rest. rw (high_quiet kind seen 128 refl) refl }
fills_utf8 kind place seen Two =
    record {
      more = 128 ∷ (128 ∷ []);
      then = 128 ∷ (128 ∷ seen);
      fills =
          λ rest. rw (high_quiet kind seen 128 refl) (rw (high_quiet kind (128 ∷ seen) 128 refl) refl);
    }
fills_utf8 kind place seen Three =
    record {
      more = 128 ∷ (128 ∷ (128 ∷ []));
      then = 128 ∷ (128 ∷ (128 ∷ seen));
      fills =
          λ rest. rw (high_quiet kind seen 128 refl)
          (rw (high_quiet kind (128 ∷ seen) 128 refl) (rw (high_quiet kind (128 ∷ (128 ∷ seen)) 128 refl) refl));
    }
fills_utf8 kind place seen AfterE0 =
    record {
      more = 160 ∷ (128 ∷ []);
      then = 128 ∷ (160 ∷ seen);
      fills =
          λ rest. rw (high_quiet kind seen 160 refl) (rw (high_quiet kind (160 ∷ seen) 128 refl) refl);
    }
fills_utf8 kind place seen AfterEd =
    record {
      more = 128 ∷ (128 ∷ []);
      then = 128 ∷ (128 ∷ seen);
      fills =
          λ rest. rw (high_quiet kind seen 128 refl) (rw (high_quiet kind (128 ∷ seen) 128 refl) refl);
    }
fills_utf8 kind place seen AfterF0 =
    record {
      more = 144 ∷ (128 ∷ (128 ∷ []));
      then = 128 ∷ (128 ∷ (144 ∷ seen));
      fills =
          λ rest. rw (high_quiet kind seen 144 refl)
          (rw (high_quiet kind (144 ∷ seen) 128 refl) (rw (high_quiet kind (128 ∷ (144 ∷ seen)) 128 refl) refl));
    }
fills_utf8 kind place seen AfterF4 =
    record {
      more = 128 ∷ (128 ∷ (128 ∷ []));
      then = 128 ∷ (128 ∷ (128 ∷ seen));
      fills =
          λ rest. rw (high_quiet kind seen 128 refl)
          (rw (high_quiet kind (128 ∷ seen) 128 refl) (rw (high_quiet kind (128 ∷ (128 ∷ seen)) 128 refl) refl));
    }

whole_filled : (e : Encoding) (kind : Kind) (place : OpenElements) (seen : List ℕ) (tail : Tail) → tail ≡ Whole
    → Filled e kind place seen tail
whole_filled e kind place seen tail f =
    record {
      more = [];
      then = seen;
      fills =
          λ rest. ap (λ t. reads (body_reader e) rest (in_segment kind place seen t)) f;
    }

filled : (e : Encoding) (kind : Kind) (place : OpenElements) (seen : List ℕ) (tail : Tail)
    → tails e Whole (forward seen) ≡ Some tail → Filled e kind place seen tail
filled Utf8 kind place seen tail f = fills_utf8 kind place seen tail
filled Ascii kind place seen tail f = whole_filled Ascii kind place seen tail (ascii_whole (forward seen) tail f)
filled Latin1 kind place seen tail f = whole_filled Latin1 kind place seen tail (latin1_whole (forward seen) tail f)

module _ (e : Encoding) where
  abbrev goes_e : List ℕ → State → Option Tree
  goes_e = reads (body_reader e)

  end_run : (frame : OpenElement) (outer : OpenElements) (seen : List ℕ)
      → Lives e (back (with_child outer (tree_of (with_text frame (expanded e (forward seen))))))
      → Lives e (in_segment in_run (within frame outer) seen Whole)
  end_run frame outer seen on =
      lead e _ _ (60 ∷ (47 ∷ (frame.name ++ 62 ∷ [])))
      (λ rest. ap (λ x. goes_e (60 ∷ (47 ∷ x)) (in_segment in_run (within frame outer) seen Whole))
      (append_assoc frame.name (62 ∷ []) rest)
      ∙ left_reads e Tree outcome frame.name [] [] rest (with_text frame (expanded e (forward seen))) outer refl)
      on

  closes : (outer : OpenElements) (frame : OpenElement) → Lives e (back (with_child outer (tree_of frame)))
  closes (outside root) frame = ([], tree_of frame, refl)
  closes (within parent outer) frame =
      let grown : OpenElement =
      record {
        name = parent.name;
        label = parent.label;
        text = parent.text;
        children =
            parent.children ++ tree_of frame ∷ [];
      } in
      end_run grown outer [] (closes outer (with_text grown (expanded e [])))

  run_lives : (frame : OpenElement) (outer : OpenElements) (seen : List ℕ)
      → Lives e (in_segment in_run (within frame outer) seen Whole)
  run_lives frame outer seen = end_run frame outer seen (closes outer (with_text frame (expanded e (forward seen))))

  letter : next_tail e Whole 97 ≡ Some Whole
  letter = ascii_next e 97 refl

  back_lives : (place : OpenElements) → Lives e (back place)
  back_lives (outside None) = (codes "<a/>", tree_of (fresh e (97 ∷ [])), rw letter refl)
  back_lives (outside (Some tree)) = ([], tree, refl)
  back_lives (within frame outer) = run_lives frame outer []

  slash_lives : (name : List ℕ) (place : OpenElements) → Lives e (in_tag after_slash name place)
  slash_lives name place = lead e _ _ (62 ∷ []) (λ rest. refl) (closes place (fresh e name))

  closed_lives : (name : List ℕ) (place : OpenElements) → Lives e (in_tag closed name place)
  closed_lives name place = lead e _ _ (47 ∷ []) (λ rest. refl) (slash_lives name place)

  value_lives : (name : List ℕ) (place : OpenElements) → Lives e (in_tag value name place)
  value_lives name place = lead e _ _ (34 ∷ (34 ∷ [])) (λ rest. refl) (closed_lives name place)

  spot_lives : (spot : Spot) (name : List ℕ) (place : OpenElements) → Lives e (in_tag spot name place)
  spot_lives spaced name place = lead e _ _ (47 ∷ []) (λ rest. refl) (slash_lives name place)
  spot_lives equals name place = lead e _ _ (61 ∷ []) (λ rest. refl) (value_lives name place)
  spot_lives value name place = value_lives name place
  spot_lives closed name place = closed_lives name place
  spot_lives after_slash name place = slash_lives name place

  quote_lives : (quote : Quote) (name seen : List ℕ) (place : OpenElements)
      → Lives e (in_segment (in_quotes quote name) place seen Whole)
  quote_lives single name seen place = lead e _ _ (39 ∷ []) (λ rest. refl) (closed_lives name place)
  quote_lives double name seen place = lead e _ _ (34 ∷ []) (λ rest. refl) (closed_lives name place)

  marks_live : (mark : Mark) (place : OpenElements) (seen : List ℕ) → MayStand mark place
      → Lives e (in_segment (in_marks mark) place seen Whole)
  marks_live dashes place seen may =
      lead e _ (back place) (codes "-->") (λ rest. rw (ascii_next e 45 refl, ascii_next e 45 refl) refl)
      (back_lives place)
  marks_live question place seen may =
      lead e _ (back place) (codes "?>") (λ rest. rw (ascii_next e 63 refl) refl) (back_lives place)
  marks_live brackets (outside root) seen may = absurd may
  marks_live brackets (within frame outer) seen may =
      lead e _ (back (within (with_text frame (utf8_of e (forward seen))) outer)) (codes "]]>")
      (λ rest. rw (ascii_next e 93 refl, ascii_next e 93 refl) refl)
      (back_lives (within (with_text frame (utf8_of e (forward seen))) outer))

  whole_lives : (kind : Kind) (place : OpenElements) (seen before : List ℕ) → FitsKind e kind place before
      → Lives e (in_segment kind place seen Whole)
  whole_lives in_run (outside root) seen before fits = absurd fits.1
  whole_lives in_run (within frame outer) seen before fits = run_lives frame outer seen
  whole_lives in_name place seen before fits = lead e _ _ (47 ∷ []) (λ rest. refl) (slash_lives (forward seen) place)
  whole_lives (in_label name) place seen before fits = lead e _ _ (61 ∷ []) (λ rest. refl) (value_lives name place)
  whole_lives (in_quotes quote name) place seen before fits = quote_lives quote name seen place
  whole_lives (in_marks mark) place seen before fits = marks_live mark place seen fits.1

  cdata_reads : (left rest : List ℕ) (frame : OpenElement) (outer : OpenElements) → has_some left ≡ true
      → goes_e (left ++ rest) (in_cdata left frame outer)
      ≡ goes_e rest (in_segment (in_marks brackets) (within frame outer) [] Whole)
  cdata_reads [] rest frame outer f = absurd (false≢true f)
  cdata_reads (b ∷ []) rest frame outer f = rw (eq-eqb b b refl) refl
  cdata_reads (b ∷ (d ∷ left)) rest frame outer f = rw (eq-eqb b b refl) (cdata_reads (d ∷ left) rest frame outer refl)

  pub lives : (s : State) (prefix : List ℕ) → Fits e s prefix → Lives e s
  lives (between root) prefix fits = back_lives (outside root)
  lives (opened place) prefix fits = lead e _ _ (codes "!--") (λ rest. refl) (marks_live dashes place [] tt)
  lives (bang place) prefix fits = lead e _ _ (codes "--") (λ rest. refl) (marks_live dashes place [] tt)
  lives (after_dash place) prefix fits = lead e _ _ (codes "-") (λ rest. refl) (marks_live dashes place [] tt)
  lives (in_cdata left frame outer) prefix fits =
      lead e _ _ left (λ rest. cdata_reads left rest frame outer fits.some)
      (marks_live brackets (within frame outer) [] tt)
  lives (in_segment kind place seen tail) prefix fits =
      let full = filled e kind place seen tail fits.lacks in
      lead e _ _ full.more full.fills (whole_lives kind place full.then fits.before fits.is_kind)
  lives (in_tag spot name place) prefix fits = spot_lives spot name place
  lives (in_end done left frame outer) prefix fits =
      lead e _ _ (left ++ 62 ∷ [])
      (λ rest. ap (λ x. goes_e x (in_end done left frame outer)) (append_assoc left (62 ∷ []) rest)
      ∙ left_reads e Tree outcome left done [] rest frame outer refl) (closes outer frame)
  lives (after_name frame outer) prefix fits = lead e _ _ (62 ∷ []) (λ rest. refl) (closes outer frame)
