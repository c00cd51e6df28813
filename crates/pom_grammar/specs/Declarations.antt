-- The encoding that a declaration names.
use Rattle.std.specs.Prelude.{◌≡◌, ℕ, Bool, true, false, if◌then◌else◌, ◌&&◌, List, [], ◌∷◌, ◌++◌, map, Option, Some, None, ◌==◌, codes}
use Rattle.std.specs.Char.{to_ascii_lowercase}
use Rattle.ascii_bytes.specs.Signs.{quotation_mark, apostrophe, equals_sign}
use Rattle.ascii_bytes.specs.Classes.{is_white}
use Rattle.case_table.specs.Rows.{value_at}
use Rattle.pom_grammar.specs.declared.encoding.Encoding.{Encoding}
use Rattle.pom_grammar.specs.declared.encoding.Encoding.TheVariants.{Utf8, Ascii, Latin1}
use Rattle.pom_grammar.specs.declared.encoding.Seek.{Seek}
use Rattle.pom_grammar.specs.declared.encoding.Seek.TheVariants.{Nothing, E, En, Enc, Enco, Encod, Encodi, Encodin, Word, Equals}
use Rattle.pom_grammar.specs.Encodings.{IsText}
use Rattle.pom_grammar.specs.Document.{Quote, single, double, quote_byte, question, ends_from}

abbrev pub seek_if : ℕ → Seek → ℕ → Seek
seek_if wanted next c = if c == wanted then next else if c == 101 then E else Nothing

abbrev pub next_seek : Seek → ℕ → Seek
next_seek Nothing c = seek_if 101 E c
next_seek E c = seek_if 110 En c
next_seek En c = seek_if 99 Enc c
next_seek Enc c = seek_if 111 Enco c
next_seek Enco c = seek_if 100 Encod c
next_seek Encod c = seek_if 105 Encodi c
next_seek Encodi c = seek_if 110 Encodin c
next_seek Encodin c = seek_if 103 Word c
next_seek Word c = if is_white c then Word else seek_if equals_sign Equals c
next_seek Equals c = if is_white c then Equals else seek_if 101 E c

-- what a prefix of the declaration's text tells: no value yet, a value so far, or the value
pub data Found : Type 0 where
  seeking : Seek → Found
  naming : Quote → List ℕ → Found
  named : List ℕ → Found

-- the byte after `encoding`, white space, `=`, white space
abbrev pub at_value : ℕ → Found
at_value c =
    if c == quotation_mark then naming double [] else if c == apostrophe then naming single []
    else seeking (next_seek Equals c)

abbrev pub next_sought : Seek → ℕ → Found
next_sought Nothing c = seeking (next_seek Nothing c)
next_sought E c = seeking (next_seek E c)
next_sought En c = seeking (next_seek En c)
next_sought Enc c = seeking (next_seek Enc c)
next_sought Enco c = seeking (next_seek Enco c)
next_sought Encod c = seeking (next_seek Encod c)
next_sought Encodi c = seeking (next_seek Encodi c)
next_sought Encodin c = seeking (next_seek Encodin c)
next_sought Word c = seeking (next_seek Word c)
next_sought Equals c = at_value c

abbrev pub next_found : Found → ℕ → Found
next_found (seeking seek) c = next_sought seek c
next_found (naming quote value) c = if c == quote_byte quote then named value else naming quote (value ++ c ∷ [])
next_found (named value) c = named value

abbrev pub found_from : Found → List ℕ → Found
found_from found [] = found
found_from found (c ∷ text) = found_from (next_found found c) text

abbrev pub found_in : List ℕ → Found
found_in text = found_from (seeking Nothing) text

abbrev pub lowered : List ℕ → List ℕ
lowered value = map to_ascii_lowercase value

-- the names of encodings, in lower case
abbrev pub encoding_rows : List (List ℕ × Encoding)
encoding_rows =
    (codes "ascii", Ascii) ∷ (codes "iso-8859-1", Latin1) ∷ (codes "latin1", Latin1) ∷ (codes "us-ascii", Ascii)
    ∷ (codes "utf-8", Utf8) ∷ (codes "utf8", Utf8) ∷ []

abbrev pub known_lowered : List ℕ → Option Encoding
known_lowered name = value_at name encoding_rows

abbrev pub known : List ℕ → Option Encoding
known value = known_lowered (lowered value)

-- without a value the text is UTF-8; a value that is not known gives none
abbrev pub encoding_of : Found → Option Encoding
encoding_of (seeking seek) = Some Utf8
encoding_of (naming quote value) = Some Utf8
encoding_of (named value) = known value

abbrev pub is_unknown : Option Encoding → Bool
is_unknown None = true
is_unknown (Some e) = false

-- `<?xml`, a white space, any text up to the first `?>`, and that
pub record IsDeclared (text bytes : List ℕ) : Type 0 where
  pub space : ℕ
  pub is_space : is_white space ≡ true
  pub ends : ends_from question [] (text ++ codes "?>") ≡ true
  pub whole : bytes ≡ codes "<?xml" ++ space ∷ (text ++ codes "?>")

pub record IsDeclaration (e : Encoding) (bytes : List ℕ) : Type 0 where
  pub text : List ℕ
  pub is_declared : IsDeclared text bytes
  pub encoding : encoding_of (found_in text) ≡ Some e
  pub is_text : IsText e text

abbrev pub begins_space : List ℕ → Bool
begins_space [] = false
begins_space (c ∷ text) = is_white c

-- whether a declaration begins a text
abbrev pub declares_from : List ℕ → List ℕ → Bool
declares_from [] text = begins_space text
declares_from (a ∷ prefix) [] = false
declares_from (a ∷ prefix) (c ∷ text) = c == a && declares_from prefix text

abbrev pub declares : List ℕ → Bool
declares text = declares_from (codes "<?xml") text
