-- Each step of the whole reader keeps what is known of its prefix.
use Rattle.std.proofs.Common.{◌≡◌, ℕ, Bool, true, false, cond, ◌&&◌, List, [], ◌∷◌, ◌++◌, refl, sym, ◌∙◌, ap, Option, Some, None}
use Rattle.std.specs.Prelude.{IfSome, ◌==◌, codes}
use Rattle.std.proofs.lemmas.Bool.{cond_both, and_parts, eqb-true, false≢true}
use Rattle.std.proofs.lemmas.List.{append_assoc, append-nil}
use Rattle.pom_grammar.specs.declared.encoding.Encoding.{Encoding}
use Rattle.pom_grammar.specs.declared.encoding.Encoding.TheVariants.{Utf8, Ascii, Latin1}
use Rattle.pom_grammar.specs.declared.encoding.Tail.{Tail}
use Rattle.pom_grammar.specs.declared.encoding.Tail.TheVariants.{Whole, One, Two, Three, AfterE0, AfterEd, AfterF0, AfterF4}
use Rattle.pom_grammar.specs.declared.encoding.Seek.TheVariants.{Nothing, E, En, Enc, Enco, Encod, Encodi, Encodin, Word, Equals}
use Rattle.pom_grammar.specs.declared.tree.Tree.{Tree}
use Rattle.pom_grammar.specs.Characters.{is_empty, begins_with, forward}
use Rattle.pom_grammar.specs.Encodings.{IsText, goes_on, tails, next_tail}
use Rattle.pom_grammar.specs.Document.{single, double, question, ends_from, backward}
use Rattle.pom_grammar.specs.Declarations.{Found, seeking, naming, named, next_found, found_from, found_in, encoding_of, declares}
use Rattle.pom_grammar.specs.Machine.{State, step, Fits}
use Rattle.pom_grammar.specs.Heads.{IsMark, no_mark, marked, IsHead, undeclared, declared, IsDocument, Start, at_start, bracket, after_question, after_x, after_m, after_l, Telling, Reading, begin, mark_one, mark_two, starting, in_declaration, in_body, is_finished, told, next_telling, may_go_on, body_in, declaration_step, expected, next_start, so_far, as_body, body_reading, start_step, read_step, read_outcome, FitsStart, FitsDeclaration, FitsHead, never, before, FitsReading}
use Rattle.pom_grammar.proofs.Bytes.{tails_more, one_more}
use Rattle.pom_grammar.proofs.Keeps.{keeps}
use Rattle.pom_grammar.proofs.Takes.{goes_on_some}
use Rattle.pom_grammar.proofs.Right.{right}

abbrev KeepsReading : Option Reading → List ℕ → Type 0
KeepsReading next prefix = IfSome next (λ s. FitsReading s prefix)

reading_if : (b : Bool) (x y : Option Reading) (prefix : List ℕ) → (b ≡ true → KeepsReading x prefix)
    → (b ≡ false → KeepsReading y prefix) → KeepsReading (cond b x y) prefix
reading_if b x y prefix f g = cond_both b x y (λ o. KeepsReading o prefix) f g

pub found_more : (found : Found) (text : List ℕ) (c : ℕ)
    → found_from found (text ++ c ∷ []) ≡ next_found (found_from found text) c
found_more found [] c = refl
found_more found (b ∷ text) c = found_more (next_found found b) text c

-- a question mark names no encoding
pub found_question : (found : Found) → encoding_of (next_found found 63) ≡ encoding_of found
found_question (seeking Nothing) = refl
found_question (seeking E) = refl
found_question (seeking En) = refl
found_question (seeking Enc) = refl
found_question (seeking Enco) = refl
found_question (seeking Encod) = refl
found_question (seeking Encodi) = refl
found_question (seeking Encodin) = refl
found_question (seeking Word) = refl
found_question (seeking Equals) = refl
found_question (naming single value) = refl
found_question (naming double value) = refl
found_question (named value) = refl

pub latin1_text : (text : List ℕ) → tails Latin1 Whole text ≡ Some Whole
latin1_text [] = refl
latin1_text (c ∷ text) = latin1_text text

pub finished_is : (o : Option Tail) → is_finished o ≡ true → o ≡ Some Whole
finished_is None f = absurd (false≢true f)
finished_is (Some Whole) f = refl
finished_is (Some One) f = absurd (false≢true f)
finished_is (Some Two) f = absurd (false≢true f)
finished_is (Some Three) f = absurd (false≢true f)
finished_is (Some AfterE0) f = absurd (false≢true f)
finished_is (Some AfterEd) f = absurd (false≢true f)
finished_is (Some AfterF0) f = absurd (false≢true f)
finished_is (Some AfterF4) f = absurd (false≢true f)

whole_before_question : (e : Encoding) (tail next : Tail) → next_tail e tail 63 ≡ Some next → tail ≡ Whole
whole_before_question e Whole next f = refl
whole_before_question Utf8 tail next f = let no : ⊥ = cc in absurd no
whole_before_question Ascii tail next f = let no : ⊥ = cc in absurd no
whole_before_question Latin1 tail next f = let no : ⊥ = cc in absurd no

pub before_question : (e : Encoding) (text : List ℕ) → tails e Whole (text ++ 63 ∷ []) ≡ Some Whole → IsText e text
before_question e text is =
    let first =
    goes_on_some (tails e Whole text) (λ t. tails e t (63 ∷ [])) Whole
    (sym (tails_more e Whole text (63 ∷ [])) ∙ is) in
    let second = goes_on_some (next_tail e first.0 63) (λ t. Some t) Whole first.2 in
    first.1 ∙ ap Some (whole_before_question e first.0 second.0 second.1)

pub told_is : (e : Encoding) (space : ℕ) (seen : List ℕ) (telling : Telling) (prefix : List ℕ)
    → FitsDeclaration space seen telling prefix → told e telling ≡ tails e Whole (forward seen)
told_is Utf8 space seen telling prefix fits = fits.utf8
told_is Ascii space seen telling prefix fits = fits.ascii
told_is Latin1 space seen telling prefix fits = sym (latin1_text (forward seen))

as_body_fits : (start : Start) → Fits Utf8 (as_body start) (so_far start)
as_body_fits at_start = (right Utf8).begins
as_body_fits bracket = record { before = []; is_place = (right Utf8).begins; whole = refl }
as_body_fits after_question =
    record {
      before = codes "<?";
      is_kind = (record { before = []; is_place = (right Utf8).begins; whole = refl }, tt);
      is_run = λ text. refl;
      lacks = refl;
      whole = refl;
    }
as_body_fits after_x =
    record {
      before = codes "<?";
      is_kind = (record { before = []; is_place = (right Utf8).begins; whole = refl }, tt);
      is_run = λ text. refl;
      lacks = refl;
      whole = refl;
    }
as_body_fits after_m =
    record {
      before = codes "<?";
      is_kind = (record { before = []; is_place = (right Utf8).begins; whole = refl }, tt);
      is_run = λ text. refl;
      lacks = refl;
      whole = refl;
    }
as_body_fits after_l =
    record {
      before = codes "<?";
      is_kind = (record { before = []; is_place = (right Utf8).begins; whole = refl }, tt);
      is_run = λ text. refl;
      lacks = refl;
      whole = refl;
    }

never_declares : (start : Start) (c : ℕ) (rest : List ℕ) → expected start c ≡ false
    → declares ((so_far start ++ c ∷ []) ++ rest) ≡ false
never_declares at_start c rest f = rw f refl
never_declares bracket c rest f = rw f refl
never_declares after_question c rest f = rw f refl
never_declares after_x c rest f = rw f refl
never_declares after_m c rest f = rw f refl
never_declares after_l c rest f = rw f refl

head_more : (e : Encoding) (head bytes : List ℕ) (c : ℕ) → FitsHead e head bytes → FitsHead e head (bytes ++ c ∷ [])
head_more e head bytes c (never bytes1 f) =
    never (bytes1 ++ c ∷ []) (λ rest. ap declares (append_assoc bytes1 (c ∷ []) rest) ∙ f (c ∷ rest))
head_more e head bytes c (before e1 head1 bytes1 is) = before e1 head1 (bytes1 ++ c ∷ []) is

-- a step of the reader of bodies
body_keeps : (e : Encoding) (next : Option State) (mark head bytes prefix : List ℕ) → IsMark mark
    → FitsHead e head bytes
    → IfSome next (λ s. Fits e s bytes) → prefix ≡ mark ++ (head ++ bytes) → KeepsReading (body_reading e next) prefix
body_keeps e None mark head bytes prefix bom is_head fits whole = tt
body_keeps e (Some s) mark head bytes prefix bom is_head fits whole =
    record { mark = mark; head = head; bytes = bytes; is_mark = bom; is_head = is_head; fits = fits; whole = whole }

next_start_keeps : (start : Start) (prefix : List ℕ) (c : ℕ) → FitsStart start prefix → expected start c ≡ true
    → FitsReading (next_start start c) (prefix ++ c ∷ [])
next_start_keeps at_start prefix c fits f =
    record {
      mark = fits.mark;
      is_mark = fits.is_mark;
      whole = ap (λ x. x ++ c ∷ []) fits.whole
          ∙ append_assoc fits.mark [] (c ∷ []) ∙ ap (λ b. fits.mark ++ b ∷ []) (eqb-true c 60 f);
    }
next_start_keeps bracket prefix c fits f =
    record {
      mark = fits.mark;
      is_mark = fits.is_mark;
      whole = ap (λ x. x ++ c ∷ []) fits.whole
          ∙ append_assoc fits.mark (codes "<") (c ∷ [])
          ∙ ap (λ b. fits.mark ++ (codes "<" ++ b ∷ [])) (eqb-true c 63 f);
    }
next_start_keeps after_question prefix c fits f =
    record {
      mark = fits.mark;
      is_mark = fits.is_mark;
      whole = ap (λ x. x ++ c ∷ []) fits.whole
          ∙ append_assoc fits.mark (codes "<?") (c ∷ [])
          ∙ ap (λ b. fits.mark ++ (codes "<?" ++ b ∷ [])) (eqb-true c 120 f);
    }
next_start_keeps after_x prefix c fits f =
    record {
      mark = fits.mark;
      is_mark = fits.is_mark;
      whole = ap (λ x. x ++ c ∷ []) fits.whole
          ∙ append_assoc fits.mark (codes "<?x") (c ∷ [])
          ∙ ap (λ b. fits.mark ++ (codes "<?x" ++ b ∷ [])) (eqb-true c 109 f);
    }
next_start_keeps after_m prefix c fits f =
    record {
      mark = fits.mark;
      is_mark = fits.is_mark;
      whole = ap (λ x. x ++ c ∷ []) fits.whole
          ∙ append_assoc fits.mark (codes "<?xm") (c ∷ [])
          ∙ ap (λ b. fits.mark ++ (codes "<?xm" ++ b ∷ [])) (eqb-true c 108 f);
    }
next_start_keeps after_l prefix c fits f =
    record {
      mark = fits.mark;
      is_mark = fits.is_mark;
      is_space = f;
      is_open = λ text. refl;
      found = refl;
      utf8 = refl;
      ascii = refl;
      alive = refl;
      whole = ap (λ x. x ++ c ∷ []) fits.whole ∙ append_assoc fits.mark (codes "<?xml") (c ∷ []);
    }

start_keeps : (start : Start) (prefix : List ℕ) (c : ℕ) → FitsStart start prefix
    → KeepsReading (start_step start c) (prefix ++ c ∷ [])
start_keeps start prefix c fits =
    reading_if (expected start c) _ _ (prefix ++ c ∷ []) (next_start_keeps start prefix c fits)
    (λ f. body_keeps Utf8 (step Utf8 (as_body start) c) fits.mark [] (so_far start ++ c ∷ [])
    (prefix ++ c ∷ []) fits.is_mark (never (so_far start ++ c ∷ []) (λ rest. never_declares start c rest f))
    (keeps Utf8 (as_body start) (so_far start) c (as_body_fits start))
    (ap (λ x. x ++ c ∷ []) fits.whole ∙ append_assoc fits.mark (so_far start) (c ∷ [])))

-- what was seen ends with a question mark where a declaration ends
pub question_seen : (seen : List ℕ) (c : ℕ) → begins_with (backward question) (c ∷ seen) ≡ true
    → (left : List ℕ) × (seen ≡ 63 ∷ left) × (c ≡ 62)
question_seen [] c f = absurd (false≢true (and_parts (c == 62) false f).1)
question_seen (b ∷ left) c f =
    let one = and_parts (c == 62) (b == 63 && true) f in
    let two = and_parts (b == 63) true one.1 in
    (left, ap (λ x. x ∷ left) (eqb-true b 63 two.0), eqb-true c 62 one.0)

declared_keeps : (space : ℕ) (seen : List ℕ) (telling : Telling) (prefix : List ℕ) (c : ℕ)
    → FitsDeclaration space seen telling prefix → begins_with (backward question) (c ∷ seen) ≡ true
    → (o : Option Encoding) → encoding_of telling.found ≡ o
    → KeepsReading (body_in o telling) (prefix ++ c ∷ [])
declared_keeps space seen telling prefix c fits f None g = tt
declared_keeps space seen telling prefix c fits f (Some e) g =
    reading_if (is_finished (told e telling)) _ _ (prefix ++ c ∷ [])
    (λ h.
    let last = question_seen seen c f in
    let text : List ℕ = forward last.0 in
    let split : forward seen ≡ text ++ 63 ∷ [] = ap forward last.1 in
    let end : forward seen ++ c ∷ [] ≡ text ++ codes "?>" = ap (λ x. x ++ c ∷ []) split
    ∙ append_assoc text (63 ∷ []) (c ∷ []) ∙ ap (λ b. text ++ 63 ∷ (b ∷ [])) last.2 in
    let head : List ℕ = codes "<?xml" ++ space ∷ (text ++ codes "?>") in
    let full : tails e Whole (text ++ 63 ∷ []) ≡ Some Whole = ap (tails e Whole) (sym split)
    ∙ sym (told_is e space seen telling prefix fits) ∙ finished_is (told e telling) h in
    record {
      mark = fits.mark;
      head = head;
      bytes = [];
      is_mark = fits.is_mark;
      is_head = before e head []
          (record {
            text = text;
            is_declared =
                record {
                  space = space;
                  is_space = fits.is_space;
                  ends = ap (ends_from question []) (sym end)
                      ∙ fits.is_open (c ∷ []) ∙ ap (λ b. cond b true false) f;
                  whole = refl;
                };
            encoding = sym (found_question (found_in text))
                ∙ ap encoding_of
                (sym (found_more (seeking Nothing) text 63) ∙ ap found_in (sym split) ∙ sym fits.found) ∙ g;
            is_text = before_question e text full;
          });
      fits = (right e).begins;
      whole = ap (λ x. x ++ c ∷ []) fits.whole
          ∙ append_assoc fits.mark (codes "<?xml" ++ space ∷ forward seen) (c ∷ [])
          ∙ ap (λ x. fits.mark ++ (codes "<?xml" ++ space ∷ x)) end ∙ ap (λ x. fits.mark ++ x) (sym (append-nil head));
    })
    (λ _. tt)

declaration_keeps : (space : ℕ) (seen : List ℕ) (telling : Telling) (prefix : List ℕ) (c : ℕ)
    → FitsDeclaration space seen telling prefix
    → KeepsReading (declaration_step space seen telling c) (prefix ++ c ∷ [])
declaration_keeps space seen telling prefix c fits =
    reading_if (begins_with (backward question) (c ∷ seen)) _ _ (prefix ++ c ∷ [])
    (λ f. declared_keeps space seen telling prefix c fits f (encoding_of telling.found) refl)
    (λ f. reading_if (may_go_on (next_telling telling c)) _ None (prefix ++ c ∷ [])
    (λ g. record {
      mark = fits.mark;
      is_mark = fits.is_mark;
      is_space = fits.is_space;
      is_open = λ text. ap (ends_from question []) (append_assoc (forward seen) (c ∷ []) text)
          ∙ fits.is_open (c ∷ text) ∙ ap (λ b. cond b (is_empty text) (ends_from question (c ∷ seen) text)) f;
      found = ap (λ x. next_found x c) fits.found ∙ sym (found_more (seeking Nothing) (forward seen) c);
      utf8 = ap (λ o. goes_on o (λ tail. next_tail Utf8 tail c)) fits.utf8 ∙ sym (one_more Utf8 (forward seen) c);
      ascii = ap (λ o. goes_on o (λ tail. next_tail Ascii tail c)) fits.ascii ∙ sym (one_more Ascii (forward seen) c);
      alive = g;
      whole = ap (λ x. x ++ c ∷ []) fits.whole
          ∙ append_assoc fits.mark (codes "<?xml" ++ space ∷ forward seen) (c ∷ []);
    })
    (λ _. tt))

pub reading_keeps : (s : Reading) (prefix : List ℕ) (c : ℕ) → FitsReading s prefix
    → KeepsReading (read_step s c) (prefix ++ c ∷ [])
reading_keeps begin prefix c fits =
    reading_if (c == 239) _ _ (prefix ++ c ∷ []) (λ f. ap (λ x. x ++ c ∷ []) fits ∙ ap (λ b. b ∷ []) (eqb-true c 239 f))
    (λ _. start_keeps at_start prefix c (record { mark = []; is_mark = no_mark; whole = fits }))
reading_keeps mark_one prefix c fits =
    reading_if (c == 187) _ None (prefix ++ c ∷ [])
    (λ f. ap (λ x. x ++ c ∷ []) fits ∙ ap (λ b. 239 ∷ (b ∷ [])) (eqb-true c 187 f)) (λ _. tt)
reading_keeps mark_two prefix c fits =
    reading_if (c == 191) _ None (prefix ++ c ∷ [])
    (λ f. record {
      mark = 239 ∷ (187 ∷ (191 ∷ []));
      is_mark = marked;
      whole = ap (λ x. x ++ c ∷ []) fits
          ∙ ap (λ b. 239 ∷ (187 ∷ (b ∷ []))) (eqb-true c 191 f);
    })
    (λ _. tt)
reading_keeps (starting start) prefix c fits = start_keeps start prefix c fits
reading_keeps (in_declaration space seen telling) prefix c fits = declaration_keeps space seen telling prefix c fits
reading_keeps (in_body e s) prefix c fits =
    body_keeps e (step e s c) fits.mark fits.head (fits.bytes ++ c ∷ []) (prefix ++ c ∷ []) fits.is_mark
    (head_more e fits.head fits.bytes c fits.is_head) (keeps e s fits.bytes c fits.fits)
    (ap (λ x. x ++ c ∷ []) fits.whole ∙ append_assoc fits.mark (fits.head ++ fits.bytes) (c ∷ [])
    ∙ ap (λ x. fits.mark ++ x) (append_assoc fits.head fits.bytes (c ∷ [])))

is_head_of : (e : Encoding) (head bytes : List ℕ) → FitsHead e head bytes → IsHead e head bytes
is_head_of e head bytes (never bytes1 f) = undeclared bytes1 (ap declares (sym (append-nil bytes1)) ∙ f [])
is_head_of e head bytes (before e1 head1 bytes1 is) = declared e1 head1 bytes1 is

pub reading_gives : (s : Reading) (prefix : List ℕ) (tree : Tree) → FitsReading s prefix → read_outcome s ≡ Some tree
    → IsDocument prefix tree
reading_gives begin prefix tree fits f = let no : ⊥ = cc in absurd no
reading_gives mark_one prefix tree fits f = let no : ⊥ = cc in absurd no
reading_gives mark_two prefix tree fits f = let no : ⊥ = cc in absurd no
reading_gives (starting start) prefix tree fits f = let no : ⊥ = cc in absurd no
reading_gives (in_declaration space seen telling) prefix tree fits f = let no : ⊥ = cc in absurd no
reading_gives (in_body e s) prefix tree fits f =
    record {
      encoding = e;
      mark = fits.mark;
      head = fits.head;
      body = fits.bytes;
      is_mark = fits.is_mark;
      is_head =
          is_head_of e fits.head fits.bytes fits.is_head;
      is_body = (right e).gives s fits.bytes tree fits.fits f;
      whole = fits.whole;
    }
