-- Each state of the whole reader goes on to a document.
use Rattle.std.proofs.Common.{◌≡◌, ℕ, inl, inr, Bool, true, false, cond, not, ◌&&◌, List, [], ◌∷◌, ◌++◌, length, drop, refl, sym, ◌∙◌, ap, Option, Some, None}
use Rattle.std.specs.Prelude.{◌==◌, codes, nat_lt}
use Rattle.std.specs.Char.{to_ascii_lowercase}
use Rattle.std.proofs.lemmas.Bool.{and_parts, and_from, eqb-true, eq-eqb, cases_Bool, false≢true, not-true, or_left, or_right}
use Rattle.std.proofs.lemmas.List.{append_assoc, append-nil, map-append}
use Rattle.std.specs.List.{list_all}
use Rattle.fault_place.specs.Reader.{goes_with, reads, IsRight}
use Rattle.pom_grammar.specs.declared.encoding.Encoding.{Encoding}
use Rattle.pom_grammar.specs.declared.encoding.Encoding.TheVariants.{Utf8, Ascii, Latin1}
use Rattle.pom_grammar.specs.declared.encoding.Tail.{Tail}
use Rattle.pom_grammar.specs.declared.encoding.Tail.TheVariants.{Whole, One, Two, Three, AfterE0, AfterEd, AfterF0, AfterF4}
use Rattle.pom_grammar.specs.declared.encoding.Seek.{Seek}
use Rattle.pom_grammar.specs.declared.encoding.Seek.TheVariants.{Nothing, E, En, Enc, Enco, Encod, Encodi, Encodin, Word, Equals}
use Rattle.pom_grammar.specs.declared.tree.Tree.{Tree}
use Rattle.pom_grammar.specs.Characters.{is_high, begins_with, forward}
use Rattle.pom_grammar.specs.Encodings.{goes_on, tails, next_tail}
use Rattle.pom_grammar.specs.Document.{Quote, single, double, quote_byte}
use Rattle.pom_grammar.specs.Declarations.{Found, seeking, naming, named, next_found, lowered, known, known_lowered, encoding_of}
use Rattle.pom_grammar.specs.Machine.{State, between, outcome, Fits}
use Rattle.pom_grammar.specs.Heads.{IsDocument, Start, at_start, bracket, after_question, after_x, after_m, after_l, Telling, Reading, begin, mark_one, mark_two, starting, in_declaration, in_body, is_alive, is_finished, told, next_telling, begins_latin1, alive_in, may_go_on, body_in, read_step, FitsReading, document_reader}
use Rattle.pom_grammar.proofs.Lives.{apart, ascii_next}
use Rattle.pom_grammar.proofs.Right.{right}
use Rattle.pom_grammar.proofs.HeadKeeps.{reading_keeps, reading_gives, found_question}
use Rattle.pom_grammar.proofs.HeadTakes.{Consistent, consistent_more, good_alive, Good, same_reads, body_reads, quiet_outcome, document_takes, or_cases}

abbrev goes : List ℕ → Reading → Option Tree
goes = reads document_reader

abbrev Lives : Reading → Type 0
Lives s = (rest : List ℕ) × (tree : Tree) × (reads document_reader rest s ≡ Some tree)

lead : (s t : Reading) (more : List ℕ) → ((rest : List ℕ) → goes (more ++ rest) s ≡ goes rest t) → Lives t → Lives s
lead s t more f on = (more ++ on.0, on.1, f on.0 ∙ on.2)

body_lives : (e : Encoding) (s : State) (prefix : List ℕ) → Fits e s prefix → Lives (in_body e s)
body_lives e s prefix fits =
    let on = (right e).lives s prefix fits in
    (on.0, on.1, same_reads on.0 (in_body e s) ∙ body_reads Tree (λ d. outcome) quiet_outcome e on.0 s ∙ on.2)

root_lives : (e : Encoding) → Lives (in_body e (between None))
root_lives e = body_lives e (between None) [] (right e).begins

abbrev telling_of : Found → Option Tail → Option Tail → Telling
telling_of found utf8 ascii = record { found = found; utf8 = utf8; ascii = ascii }

next_told : (e : Encoding) (telling : Telling) → told e telling ≡ Some Whole
    → told e (next_telling telling 63) ≡ Some Whole
next_told Utf8 telling f = ap (λ o. goes_on o (λ t. next_tail Utf8 t 63)) f
next_told Ascii telling f = ap (λ o. goes_on o (λ t. next_tail Ascii t 63)) f
next_told Latin1 telling f = refl

-- a declaration ends
finish : (e : Encoding) (space : ℕ) (seen : List ℕ) (telling : Telling) → encoding_of telling.found ≡ Some e
    → told e telling ≡ Some Whole → Consistent telling → Lives (in_declaration space seen telling)
finish e space seen telling f g is =
    let next : Telling = next_telling telling 63 in
    let enc : encoding_of next.found ≡ Some e = found_question telling.found ∙ f in
    let full : told e next ≡ Some Whole = next_told e telling g in
    let good : Good e [] next = record { encoding = enc; full = full; consistent = consistent_more telling 63 is } in
    lead (in_declaration space seen telling) (in_body e (between None)) (codes "?>")
    (λ rest.
    ap (λ b. goes_with (cond b (Some (in_declaration space (63 ∷ seen) next)) None)
    (reads document_reader (62 ∷ rest))) (good_alive e [] next good)
    ∙ ap (λ o. goes_with (body_in o next) (reads document_reader rest)) enc
    ∙ ap (λ o. goes_with (cond (is_finished o) (Some (in_body e (between None))) None)
    (reads document_reader rest)) full)
    (root_lives e)

-- a text in UTF-8 goes on
utf8_alive : (found : Found) (utf8 ascii : Option Tail) → encoding_of found ≡ Some Utf8 → is_alive utf8 ≡ true
    → may_go_on (telling_of found utf8 ascii) ≡ true
utf8_alive (seeking seek) utf8 ascii f g = refl
utf8_alive (naming quote value) utf8 ascii f g = or_right (begins_latin1 value) (is_alive utf8) g
utf8_alive (named value) utf8 ascii f g = ap (λ o. alive_in o (telling_of (named value) utf8 ascii)) f ∙ g

high_found : (found : Found) (b : ℕ) → is_high b ≡ true → encoding_of (next_found found b) ≡ encoding_of found
high_found (seeking Nothing) b f = refl
high_found (seeking E) b f = refl
high_found (seeking En) b f = refl
high_found (seeking Enc) b f = refl
high_found (seeking Enco) b f = refl
high_found (seeking Encod) b f = refl
high_found (seeking Encodi) b f = refl
high_found (seeking Encodin) b f = refl
high_found (seeking Word) b f = refl
high_found (seeking Equals) b f = rw (apart is_high b 34 f refl, apart is_high b 39 f refl) refl
high_found (naming single value) b f = rw (apart is_high b 39 f refl) refl
high_found (naming double value) b f = rw (apart is_high b 34 f refl) refl
high_found (named value) b f = refl

fill_one : (b : ℕ) (tail next : Tail) (found : Found) (space : ℕ) (seen : List ℕ) (ascii : Option Tail)
    → is_high b ≡ true → next_tail Utf8 tail b ≡ Some next → encoding_of found ≡ Some Utf8
    → Lives (in_declaration space (b ∷ seen)
    (telling_of (next_found found b) (Some next) (goes_on ascii (λ t. next_tail Ascii t b))))
    → Lives (in_declaration space seen (telling_of found (Some tail) ascii))
fill_one b tail next found space seen ascii f g h on =
    let then : Option Tail → Telling =
    λ o. telling_of (next_found found b) o (goes_on ascii (λ t. next_tail Ascii t b)) in
    lead _ _ (b ∷ [])
    (λ rest.
    ap (λ x. goes_with
    (cond (x && begins_with (63 ∷ []) seen) (body_in (encoding_of found) (telling_of found (Some tail) ascii))
    (cond (may_go_on (then (next_tail Utf8 tail b)))
    (Some (in_declaration space (b ∷ seen) (then (next_tail Utf8 tail b)))) None)) (reads document_reader rest))
    (apart is_high b 62 f refl)
    ∙ ap (λ o. goes_with (cond (may_go_on (then o)) (Some (in_declaration space (b ∷ seen) (then o))) None)
    (reads document_reader rest)) g
    ∙ ap (λ x. goes_with (cond x (Some (in_declaration space (b ∷ seen) (then (Some next)))) None)
    (reads document_reader rest))
    (utf8_alive (next_found found b) (Some next) (goes_on ascii (λ t. next_tail Ascii t b))
    (high_found found b f ∙ h) refl))
    on

abbrev Filled : Tail → Type 0
Filled tail = (found : Found) (space : ℕ) (seen : List ℕ) → encoding_of found ≡ Some Utf8
    → Lives (in_declaration space seen (telling_of found (Some tail) None))

fill_next : (b : ℕ) (tail next : Tail) → is_high b ≡ true → next_tail Utf8 tail b ≡ Some next → Filled next
    → Filled tail
fill_next b tail next f g on =
    λ found space seen h. fill_one b tail next found space seen None f g h
    (on (next_found found b) space (b ∷ seen) (high_found found b f ∙ h))

whole_filled : Filled Whole
whole_filled =
    λ found space seen f. finish Utf8 space seen (telling_of found (Some Whole) None) f refl
    (λ tail g. let no : ⊥ = cc in absurd no)

one_filled : Filled One
one_filled = fill_next 128 One Whole refl refl whole_filled

two_filled : Filled Two
two_filled = fill_next 128 Two One refl refl one_filled

filled : (tail : Tail) → Filled tail
filled Whole = whole_filled
filled One = one_filled
filled Two = two_filled
filled Three = fill_next 128 Three Two refl refl two_filled
filled AfterE0 = fill_next 160 AfterE0 One refl refl one_filled
filled AfterEd = fill_next 128 AfterEd One refl refl one_filled
filled AfterF0 = fill_next 144 AfterF0 Two refl refl two_filled
filled AfterF4 = fill_next 128 AfterF4 Two refl refl two_filled

utf8_lives : (found : Found) (utf8 ascii : Option Tail) (space : ℕ) (seen : List ℕ) → encoding_of found ≡ Some Utf8
    → is_alive utf8 ≡ true → Consistent (telling_of found utf8 ascii)
    → Lives (in_declaration space seen (telling_of found utf8 ascii))
utf8_lives found None ascii space seen f g is = absurd (false≢true g)
utf8_lives found (Some tail) None space seen f g is = filled tail found space seen f
utf8_lives found (Some tail) (Some other) space seen f g is =
    finish Utf8 space seen (telling_of found (Some tail) (Some other)) f (is other refl).0 is

-- where no value was found yet, the declaration may name Latin-1
abbrev latin1 : List ℕ
latin1 = codes " encoding=\"latin1\"?>"

seeking_reads : (seek : Seek) (utf8 ascii : Option Tail) (space : ℕ) (seen rest : List ℕ)
    → goes (latin1 ++ rest) (in_declaration space seen (telling_of (seeking seek) utf8 ascii))
    ≡ goes rest (in_body Latin1 (between None))
seeking_reads Nothing utf8 ascii space seen rest = refl
seeking_reads E utf8 ascii space seen rest = refl
seeking_reads En utf8 ascii space seen rest = refl
seeking_reads Enc utf8 ascii space seen rest = refl
seeking_reads Enco utf8 ascii space seen rest = refl
seeking_reads Encod utf8 ascii space seen rest = refl
seeking_reads Encodi utf8 ascii space seen rest = refl
seeking_reads Encodin utf8 ascii space seen rest = refl
seeking_reads Word utf8 ascii space seen rest = refl
seeking_reads Equals utf8 ascii space seen rest = refl

seeking_lives : (seek : Seek) (utf8 ascii : Option Tail) (space : ℕ) (seen : List ℕ)
    → Lives (in_declaration space seen (telling_of (seeking seek) utf8 ascii))
seeking_lives seek utf8 ascii space seen =
    lead _ _ latin1 (seeking_reads seek utf8 ascii space seen) (root_lives Latin1)

-- a value that goes on to a name of Latin-1
abbrev is_letter : ℕ → Bool
is_letter c = not (c == 62) && (not (c == 34) && (not (c == 39) && (to_ascii_lowercase c == c)))

record IsLatin1 (name : List ℕ) : Type 0 where
  letters : list_all is_letter name ≡ true
  begins : (value more : List ℕ) → lowered value ++ more ≡ name → begins_latin1 value ≡ true
  knows : (value : List ℕ) → lowered value ≡ name → known value ≡ Some Latin1

begins_prefix : (prefix more : List ℕ) → begins_with prefix (prefix ++ more) ≡ true
begins_prefix [] more = refl
begins_prefix (c ∷ prefix) more =
    and_from (c == c) (begins_with prefix (prefix ++ more)) (eq-eqb c c refl) (begins_prefix prefix more)

iso_latin1 : IsLatin1 (codes "iso-8859-1")
iso_latin1 = record {
  letters = refl;
  begins = λ value more f. or_left (begins_with (lowered value) (codes "iso-8859-1"))
      (begins_with (lowered value) (codes "latin1"))
      (ap (begins_with (lowered value)) (sym f) ∙ begins_prefix (lowered value) more);
  knows = λ value f. ap known_lowered f;
}

short_latin1 : IsLatin1 (codes "latin1")
short_latin1 = record {
  letters = refl;
  begins = λ value more f. or_right (begins_with (lowered value) (codes "iso-8859-1"))
      (begins_with (lowered value) (codes "latin1"))
      (ap (begins_with (lowered value)) (sym f) ∙ begins_prefix (lowered value) more);
  knows = λ value f. ap known_lowered f;
}

every_after : (p : ℕ → Bool) (prefix more : List ℕ) → list_all p (prefix ++ more) ≡ true → list_all p more ≡ true
every_after p [] more f = f
every_after p (c ∷ prefix) more f = every_after p prefix more (and_parts (p c) (list_all p (prefix ++ more)) f).1

quote_step : (quote : Quote) (value : List ℕ) (c : ℕ) → (c == 34) ≡ false → (c == 39) ≡ false
    → next_found (naming quote value) c ≡ naming quote (value ++ c ∷ [])
quote_step single value c f g = rw g refl
quote_step double value c f g = rw f refl

end_quote : (quote : Quote) (value : List ℕ) → next_found (naming quote value) (quote_byte quote) ≡ named value
end_quote single value = refl
end_quote double value = refl

quote_no_end : (quote : Quote) → (quote_byte quote == 62) ≡ false
quote_no_end single = refl
quote_no_end double = refl

abbrev then_telling : Found → Option Tail → Option Tail → ℕ → Telling
then_telling found utf8 ascii c =
    telling_of found (goes_on utf8 (λ t. next_tail Utf8 t c)) (goes_on ascii (λ t. next_tail Ascii t c))

-- a step that neither ends the declaration nor stops
plain_step : (found then : Found) (utf8 ascii : Option Tail) (space : ℕ) (seen : List ℕ) (c : ℕ) → (c == 62) ≡ false
    → next_found found c ≡ then → may_go_on (then_telling then utf8 ascii c) ≡ true
    → read_step (in_declaration space seen (telling_of found utf8 ascii)) c
    ≡ Some (in_declaration space (c ∷ seen) (then_telling then utf8 ascii c))
plain_step found then utf8 ascii space seen c f g h =
    ap (λ x. cond (x && begins_with (63 ∷ []) seen) (body_in (encoding_of found) (telling_of found utf8 ascii))
    (cond (may_go_on (then_telling (next_found found c) utf8 ascii c))
    (Some (in_declaration space (c ∷ seen) (then_telling (next_found found c) utf8 ascii c))) None)) f
    ∙ ap (λ x. cond (may_go_on (then_telling x utf8 ascii c))
    (Some (in_declaration space (c ∷ seen) (then_telling x utf8 ascii c))) None) g
    ∙ ap (λ x. cond x (Some (in_declaration space (c ∷ seen) (then_telling then utf8 ascii c))) None) h

step_lives : (s t : Reading) (c : ℕ) → read_step s c ≡ Some t → Lives t → Lives s
step_lives s t c f on = lead s t (c ∷ []) (λ rest. ap (λ o. goes_with o (reads document_reader rest)) f) on

name_lives : (name : List ℕ) → IsLatin1 name
    → (left : List ℕ) (quote : Quote) (value : List ℕ) (utf8 ascii : Option Tail) (space : ℕ) (seen : List ℕ)
    → lowered value ++ left ≡ name → list_all is_letter left ≡ true
    → Consistent (telling_of (naming quote value) utf8 ascii)
    → Lives (in_declaration space seen (telling_of (naming quote value) utf8 ascii))
name_lives name lat [] quote value utf8 ascii space seen f g is =
    let q : ℕ = quote_byte quote in
    let knows : known value ≡ Some Latin1 = lat.knows value (sym (append-nil (lowered value)) ∙ f) in
    step_lives _ _ q
    (plain_step (naming quote value) (named value) utf8 ascii space seen q (quote_no_end quote)
    (end_quote quote value) (ap (λ o. alive_in o (then_telling (named value) utf8 ascii q)) knows))
    (finish Latin1 space (q ∷ seen) (then_telling (named value) utf8 ascii q) knows refl
    (λ tail h. consistent_more (telling_of (naming quote value) utf8 ascii) q is tail h))
name_lives name lat (c ∷ left) quote value utf8 ascii space seen f g is =
    let all = and_parts (is_letter c) (list_all is_letter left) g in
    let one = and_parts (not (c == 62)) (not (c == 34) && (not (c == 39) && (to_ascii_lowercase c == c))) all.0 in
    let two = and_parts (not (c == 34)) (not (c == 39) && (to_ascii_lowercase c == c)) one.1 in
    let three = and_parts (not (c == 39)) (to_ascii_lowercase c == c) two.1 in
    let low : to_ascii_lowercase c ≡ c = eqb-true (to_ascii_lowercase c) c three.1 in
    let longer : lowered (value ++ c ∷ []) ++ left ≡ name =
    ap (λ x. x ++ left) (map-append to_ascii_lowercase value (c ∷ []) ∙ ap (λ b. lowered value ++ b ∷ []) low)
    ∙ append_assoc (lowered value) (c ∷ []) left ∙ f in
    step_lives _ _ c
    (plain_step (naming quote value) (naming quote (value ++ c ∷ [])) utf8 ascii space seen c
    (not-true (c == 62) one.0) (quote_step quote value c (not-true (c == 34) two.0) (not-true (c == 39) three.0))
    (or_left (begins_latin1 (value ++ c ∷ [])) (is_alive (goes_on utf8 (λ t. next_tail Utf8 t c)))
    (lat.begins (value ++ c ∷ []) left longer)))
    (name_lives name lat left quote (value ++ c ∷ []) (goes_on utf8 (λ t. next_tail Utf8 t c))
    (goes_on ascii (λ t. next_tail Ascii t c)) space (c ∷ seen) longer all.1
    (λ tail h. consistent_more (telling_of (naming quote value) utf8 ascii) c is tail h))

pub begins_split : (prefix text : List ℕ) → begins_with prefix text ≡ true → prefix ++ drop (length prefix) text ≡ text
begins_split [] text f = refl
begins_split (a ∷ prefix) [] f = absurd (false≢true f)
begins_split (a ∷ prefix) (c ∷ text) f =
    let both = and_parts (c == a) (begins_with prefix text) f in
    rw (eqb-true c a both.0) (ap (λ x. a ∷ x) (begins_split prefix text both.1))

latin1_lives : (name : List ℕ) → IsLatin1 name
    → (quote : Quote) (value : List ℕ) (utf8 ascii : Option Tail) (space : ℕ) (seen : List ℕ)
    → begins_with (lowered value) name ≡ true → Consistent (telling_of (naming quote value) utf8 ascii)
    → Lives (in_declaration space seen (telling_of (naming quote value) utf8 ascii))
latin1_lives name lat quote value utf8 ascii space seen f is =
    let left : List ℕ = drop (length (lowered value)) name in
    let split : lowered value ++ left ≡ name = begins_split (lowered value) name f in
    name_lives name lat left quote value utf8 ascii space seen split
    (every_after is_letter (lowered value) left (ap (list_all is_letter) split ∙ lat.letters)) is

named_lives : (value : List ℕ) (o : Option Encoding) (utf8 ascii : Option Tail) (space : ℕ) (seen : List ℕ)
    → known value ≡ o → alive_in o (telling_of (named value) utf8 ascii) ≡ true
    → Consistent (telling_of (named value) utf8 ascii)
    → Lives (in_declaration space seen (telling_of (named value) utf8 ascii))
named_lives value None utf8 ascii space seen f g is = absurd (false≢true g)
named_lives value (Some Utf8) utf8 ascii space seen f g is = utf8_lives (named value) utf8 ascii space seen f g is
named_lives value (Some Latin1) utf8 ascii space seen f g is =
    finish Latin1 space seen (telling_of (named value) utf8 ascii) f refl is
named_lives value (Some Ascii) utf8 None space seen f g is = absurd (false≢true g)
named_lives value (Some Ascii) utf8 (Some tail) space seen f g is =
    finish Ascii space seen (telling_of (named value) utf8 (Some tail)) f (ap Some (is tail refl).1) is

found_lives : (found : Found) (utf8 ascii : Option Tail) (space : ℕ) (seen : List ℕ)
    → may_go_on (telling_of found utf8 ascii) ≡ true → Consistent (telling_of found utf8 ascii)
    → Lives (in_declaration space seen (telling_of found utf8 ascii))
found_lives (seeking seek) utf8 ascii space seen f is = seeking_lives seek utf8 ascii space seen
found_lives (naming quote value) utf8 ascii space seen f is =
    or_cases (begins_latin1 value) (is_alive utf8) f
    (Lives (in_declaration space seen (telling_of (naming quote value) utf8 ascii)))
    (λ g. or_cases (begins_with (lowered value) (codes "iso-8859-1")) (begins_with (lowered value) (codes "latin1")) g
    (Lives (in_declaration space seen (telling_of (naming quote value) utf8 ascii)))
    (λ h. latin1_lives (codes "iso-8859-1") iso_latin1 quote value utf8 ascii space seen h is)
    (λ h. latin1_lives (codes "latin1") short_latin1 quote value utf8 ascii space seen h is))
    (λ g. utf8_lives (naming quote value) utf8 ascii space seen refl g is)
found_lives (named value) utf8 ascii space seen f is = named_lives value (known value) utf8 ascii space seen refl f is

pub ascii_utf8 : (text : List ℕ) (tail : Tail) → tails Ascii Whole text ≡ Some tail
    → (tails Utf8 Whole text ≡ Some Whole) × (tail ≡ Whole)
ascii_utf8 [] tail f = let w : tail ≡ Whole = cc in (refl, w)
ascii_utf8 (c ∷ text) tail f =
    elim (cases_Bool (nat_lt c 128)) [
      | inl a ↦
          let on = ascii_utf8 text tail
          (sym (ap (λ b. goes_on (cond b (Some Whole) None) (λ t. tails Ascii t text)) a) ∙ f) in
          (ap (λ o. goes_on o (λ t. tails Utf8 t text)) (ascii_next Utf8 c a) ∙ on.0, on.1)
      | inr a ↦ let no : ◌≡◌ {A = Option Tail} None (Some tail) =
          sym (ap (λ b. goes_on (cond b (Some Whole) None) (λ t. tails Ascii t text)) a)
          ∙ f in let never : ⊥ = cc in absurd never
    ]

start_lives : (start : Start) → Lives (starting start)
start_lives at_start = lead _ _ (codes "<!---->") (λ rest. refl) (root_lives Utf8)
start_lives bracket = lead _ _ (codes "!---->") (λ rest. refl) (root_lives Utf8)
start_lives after_question = lead _ _ (codes "?>") (λ rest. refl) (root_lives Utf8)
start_lives after_x = lead _ _ (codes "?>") (λ rest. refl) (root_lives Utf8)
start_lives after_m = lead _ _ (codes "?>") (λ rest. refl) (root_lives Utf8)
start_lives after_l = lead _ _ (codes "?>") (λ rest. refl) (root_lives Utf8)

reading_lives : (s : Reading) (prefix : List ℕ) → FitsReading s prefix → Lives s
reading_lives begin prefix fits = lead _ _ (codes "<!---->") (λ rest. refl) (root_lives Utf8)
reading_lives mark_one prefix fits = lead _ _ (187 ∷ (191 ∷ [])) (λ rest. refl) (start_lives at_start)
reading_lives mark_two prefix fits = lead _ _ (191 ∷ []) (λ rest. refl) (start_lives at_start)
reading_lives (starting start) prefix fits = start_lives start
reading_lives (in_declaration space seen telling) prefix fits =
    found_lives telling.found telling.utf8 telling.ascii space seen fits.alive
    (λ tail f. let both = ascii_utf8 (forward seen) tail (sym fits.ascii ∙ f) in (fits.utf8 ∙ both.0, both.1))
reading_lives (in_body e s) prefix fits = body_lives e s fits.bytes fits.fits

pub document_right : IsRight document_reader IsDocument
document_right =
    record {
      begins = refl;
      keeps = reading_keeps;
      gives = reading_gives;
      takes = document_takes;
      lives =
          reading_lives;
    }
