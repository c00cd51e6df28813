-- Documents, with the byte-order mark and the declaration; and their reader.
use Rattle.std.specs.Prelude.{◌≡◌, ℕ, Bool, true, false, if◌then◌else◌, ◌||◌, List, [], ◌∷◌, ◌++◌, Option, Some, None, ◌==◌, codes}
use Rattle.ascii_bytes.specs.Signs.{less_than, question_mark}
use Rattle.ascii_bytes.specs.Classes.{is_white}
use Rattle.fault_place.specs.Reader.{Reader}
use Rattle.pom_grammar.specs.declared.encoding.Encoding.{Encoding}
use Rattle.pom_grammar.specs.declared.encoding.Encoding.TheVariants.{Utf8, Ascii, Latin1}
use Rattle.pom_grammar.specs.declared.encoding.Tail.{Tail}
use Rattle.pom_grammar.specs.declared.encoding.Tail.TheVariants.{Whole, One, Two, Three, AfterE0, AfterEd, AfterF0, AfterF4}
use Rattle.pom_grammar.specs.declared.encoding.Seek.TheVariants.{Nothing}
use Rattle.pom_grammar.specs.declared.tree.Tree.{Tree}
use Rattle.pom_grammar.specs.Characters.{begins_with, forward}
use Rattle.pom_grammar.specs.Encodings.{goes_on, tails, next_tail}
use Rattle.pom_grammar.specs.Document.{IsBody, question, ends_from, backward}
use Rattle.pom_grammar.specs.Declarations.{Found, seeking, naming, named, next_found, found_in, lowered, known, encoding_of, IsDeclaration, declares}
use Rattle.pom_grammar.specs.Machine.{State, between, opened, in_segment, in_marks, outside, step, outcome, Fits}

-- nothing, or a byte-order mark in UTF-8
pub data IsMark : List ℕ → Type 0 where
  no_mark : IsMark []
  marked : IsMark (239 ∷ (187 ∷ (191 ∷ [])))

pub data IsHead : Encoding → List ℕ → List ℕ → Type 0 where
  undeclared : (body : List ℕ) → declares body ≡ false → IsHead Utf8 [] body
  declared : (e : Encoding) (head body : List ℕ) → IsDeclaration e head → IsHead e head body

pub record IsDocument (bytes : List ℕ) (tree : Tree) : Type 0 where
  pub encoding : Encoding
  pub mark : List ℕ
  pub head : List ℕ
  pub body : List ℕ
  pub is_mark : IsMark mark
  pub is_head : IsHead encoding head body
  pub is_body : IsBody encoding body tree
  pub whole : bytes ≡ mark ++ (head ++ body)

-- how much of `<?xml` was read, with nothing before it but the mark
pub data Start : Type 0 where
  at_start : Start
  bracket : Start
  after_question : Start
  after_x : Start
  after_m : Start
  after_l : Start

-- What a prefix of the declaration's text tells: what was found in it, and what UTF-8 and ASCII
-- lack after it, unless it is no such text.
pub record Telling : Type 0 where
  pub found : Found
  pub utf8 : Option Tail
  pub ascii : Option Tail

pub data Reading : Type 0 where
  begin : Reading
  mark_one : Reading
  mark_two : Reading
  starting : Start → Reading
  -- the white space, and the text so far with its last byte first
  in_declaration : ℕ → List ℕ → Telling → Reading
  in_body : Encoding → State → Reading

abbrev pub is_alive : Option Tail → Bool
is_alive None = false
is_alive (Some tail) = true

abbrev pub is_finished : Option Tail → Bool
is_finished None = false
is_finished (Some Whole) = true
is_finished (Some One) = false
is_finished (Some Two) = false
is_finished (Some Three) = false
is_finished (Some AfterE0) = false
is_finished (Some AfterEd) = false
is_finished (Some AfterF0) = false
is_finished (Some AfterF4) = false

abbrev pub told : Encoding → Telling → Option Tail
told Utf8 telling = telling.utf8
told Ascii telling = telling.ascii
told Latin1 telling = Some Whole

abbrev pub next_telling : Telling → ℕ → Telling
next_telling telling c =
    record {
      found = next_found telling.found c;
      utf8 = goes_on telling.utf8 (λ tail. next_tail Utf8 tail c);
      ascii = goes_on telling.ascii (λ tail. next_tail Ascii tail c);
    }

abbrev pub nothing_told : Telling
nothing_told = record { found = seeking Nothing; utf8 = Some Whole; ascii = Some Whole }

-- a value that may become the name of Latin-1
abbrev pub begins_latin1 : List ℕ → Bool
begins_latin1 value = begins_with (lowered value) (codes "iso-8859-1") || begins_with (lowered value) (codes "latin1")

abbrev pub alive_in : Option Encoding → Telling → Bool
alive_in None telling = false
alive_in (Some e) telling = is_alive (told e telling)

-- whether a declaration goes on
abbrev pub goes_on_from : Found → Telling → Bool
goes_on_from (seeking seek) telling = true
goes_on_from (naming quote value) telling = begins_latin1 value || is_alive telling.utf8
goes_on_from (named value) telling = alive_in (known value) telling

abbrev pub may_go_on : Telling → Bool
may_go_on telling = goes_on_from telling.found telling

abbrev pub body_in : Option Encoding → Telling → Option Reading
body_in None telling = None
body_in (Some e) telling = if is_finished (told e telling) then Some (in_body e (between None)) else None

abbrev pub declaration_step : ℕ → List ℕ → Telling → ℕ → Option Reading
declaration_step space seen telling c =
    if begins_with (backward question) (c ∷ seen) then body_in (encoding_of telling.found) telling else
    if may_go_on (next_telling telling c) then Some (in_declaration space (c ∷ seen) (next_telling telling c)) else None

abbrev pub expected : Start → ℕ → Bool
expected at_start c = c == less_than
expected bracket c = c == question_mark
expected after_question c = c == 120
expected after_x c = c == 109
expected after_m c = c == 108
expected after_l c = is_white c

abbrev pub next_start : Start → ℕ → Reading
next_start at_start c = starting bracket
next_start bracket c = starting after_question
next_start after_question c = starting after_x
next_start after_x c = starting after_m
next_start after_m c = starting after_l
next_start after_l c = in_declaration c [] nothing_told

abbrev pub so_far : Start → List ℕ
so_far at_start = []
so_far bracket = codes "<"
so_far after_question = codes "<?"
so_far after_x = codes "<?x"
so_far after_m = codes "<?xm"
so_far after_l = codes "<?xml"

-- what the reader of bodies would be in
abbrev pub in_marks_after : List ℕ → State
in_marks_after seen = in_segment (in_marks question) (outside None) seen Whole

abbrev pub as_body : Start → State
as_body at_start = between None
as_body bracket = opened (outside None)
as_body after_question = in_marks_after []
as_body after_x = in_marks_after (codes "x")
as_body after_m = in_marks_after (codes "mx")
as_body after_l = in_marks_after (codes "lmx")

abbrev pub body_reading : Encoding → Option State → Option Reading
body_reading e None = None
body_reading e (Some s) = Some (in_body e s)

abbrev pub start_step : Start → ℕ → Option Reading
start_step start c =
    if expected start c then Some (next_start start c) else body_reading Utf8 (step Utf8 (as_body start) c)

abbrev pub read_step : Reading → ℕ → Option Reading
read_step begin c = if c == 239 then Some mark_one else start_step at_start c
read_step mark_one c = if c == 187 then Some mark_two else None
read_step mark_two c = if c == 191 then Some (starting at_start) else None
read_step (starting start) c = start_step start c
read_step (in_declaration space seen telling) c = declaration_step space seen telling c
read_step (in_body e s) c = body_reading e (step e s c)

abbrev pub read_outcome : Reading → Option Tree
read_outcome begin = None
read_outcome mark_one = None
read_outcome mark_two = None
read_outcome (starting start) = None
read_outcome (in_declaration space seen telling) = None
read_outcome (in_body e s) = outcome s

-- What is known of a prefix.

pub record FitsStart (start : Start) (prefix : List ℕ) : Type 0 where
  pub mark : List ℕ
  pub is_mark : IsMark mark
  pub whole : prefix ≡ mark ++ so_far start

pub record FitsDeclaration (space : ℕ) (seen : List ℕ) (telling : Telling) (prefix : List ℕ) : Type 0 where
  pub mark : List ℕ
  pub is_mark : IsMark mark
  pub is_space : is_white space ≡ true
  pub is_open : (text : List ℕ) → ends_from question [] (forward seen ++ text) ≡ ends_from question seen text
  pub found : telling.found ≡ found_in (forward seen)
  pub utf8 : telling.utf8 ≡ tails Utf8 Whole (forward seen)
  pub ascii : telling.ascii ≡ tails Ascii Whole (forward seen)
  pub alive : may_go_on telling ≡ true
  pub whole : prefix ≡ mark ++ (codes "<?xml" ++ space ∷ forward seen)

pub data FitsHead : Encoding → List ℕ → List ℕ → Type 0 where
  never : (bytes : List ℕ) → ((rest : List ℕ) → declares (bytes ++ rest) ≡ false) → FitsHead Utf8 [] bytes
  before : (e : Encoding) (head bytes : List ℕ) → IsDeclaration e head → FitsHead e head bytes

pub record FitsBody (e : Encoding) (s : State) (prefix : List ℕ) : Type 0 where
  pub mark : List ℕ
  pub head : List ℕ
  pub bytes : List ℕ
  pub is_mark : IsMark mark
  pub is_head : FitsHead e head bytes
  pub fits : Fits e s bytes
  pub whole : prefix ≡ mark ++ (head ++ bytes)

abbrev pub FitsReading : Reading → List ℕ → Type 0
FitsReading begin prefix = prefix ≡ []
FitsReading mark_one prefix = prefix ≡ 239 ∷ []
FitsReading mark_two prefix = prefix ≡ 239 ∷ (187 ∷ [])
FitsReading (starting start) prefix = FitsStart start prefix
FitsReading (in_declaration space seen telling) prefix = FitsDeclaration space seen telling prefix
FitsReading (in_body e s) prefix = FitsBody e s prefix

abbrev pub reading_with : (V : Type 0) → (Reading → Option V) → Reader Reading V
reading_with V out = record { start = begin; step = read_step; outcome = out; Fits = FitsReading }

abbrev pub document_reader : Reader Reading Tree
document_reader = reading_with Tree read_outcome

-- an outcome of the reader of bodies, as one of the whole reader
abbrev pub lifted : (V : Type 0) → (Encoding → State → Option V) → Reading → Option V
lifted V out begin = None
lifted V out mark_one = None
lifted V out mark_two = None
lifted V out (starting start) = None
lifted V out (in_declaration space seen telling) = None
lifted V out (in_body e s) = out e s
