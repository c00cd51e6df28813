-- Which bytes are a text in an encoding, and the same text in UTF-8.
use Rattle.std.specs.Prelude.{◌≡◌, ℕ, if◌then◌else◌, List, [], ◌∷◌, Option, Some, None, nat_lt, ◌==◌, encode_utf8}
use Rattle.std.specs.List.{flat_map}
use Rattle.ascii_bytes.specs.Classes.{between}
use Rattle.pom_grammar.specs.declared.encoding.Encoding.{Encoding}
use Rattle.pom_grammar.specs.declared.encoding.Encoding.TheVariants.{Utf8, Ascii, Latin1}
use Rattle.pom_grammar.specs.declared.encoding.Tail.{Tail}
use Rattle.pom_grammar.specs.declared.encoding.Tail.TheVariants.{Whole, One, Two, Three, AfterE0, AfterEd, AfterF0, AfterF4}

abbrev pub if_between : ℕ → ℕ → Tail → ℕ → Option Tail
if_between low high left byte = if between low high byte then Some left else None

-- RFC 3629, section 4: what a character lacks after its first byte, and after each other
abbrev pub first_of_utf8 : ℕ → Option Tail
first_of_utf8 byte =
    if nat_lt byte 0x80 then Some Whole else
    if between 0xc2 0xdf byte then Some One else
    if byte == 0xe0 then Some AfterE0 else
    if byte == 0xed then Some AfterEd else
    if between 0xe1 0xef byte then Some Two else
    if byte == 0xf0 then Some AfterF0 else
    if between 0xf1 0xf3 byte then Some Three else if byte == 0xf4 then Some AfterF4 else None

abbrev pub next_of_utf8 : Tail → ℕ → Option Tail
next_of_utf8 Whole byte = first_of_utf8 byte
next_of_utf8 One byte = if_between 0x80 0xbf Whole byte
next_of_utf8 Two byte = if_between 0x80 0xbf One byte
next_of_utf8 Three byte = if_between 0x80 0xbf Two byte
next_of_utf8 AfterE0 byte = if_between 0xa0 0xbf One byte
next_of_utf8 AfterEd byte = if_between 0x80 0x9f One byte
next_of_utf8 AfterF0 byte = if_between 0x90 0xbf Two byte
next_of_utf8 AfterF4 byte = if_between 0x80 0x8f Two byte

-- a character of one byte
abbrev pub alone : Tail → Option Tail → Option Tail
alone Whole next = next
alone One next = None
alone Two next = None
alone Three next = None
alone AfterE0 next = None
alone AfterEd next = None
alone AfterF0 next = None
alone AfterF4 next = None

-- what a character lacks after one more byte, unless the byte can't stand there
abbrev pub next_tail : Encoding → Tail → ℕ → Option Tail
next_tail Utf8 tail byte = next_of_utf8 tail byte
next_tail Ascii tail byte = alone tail (if nat_lt byte 0x80 then Some Whole else None)
next_tail Latin1 tail byte = alone tail (Some Whole)

abbrev pub goes_on : Option Tail → (Tail → Option Tail) → Option Tail
goes_on None f = None
goes_on (Some tail) f = f tail

abbrev pub tails : Encoding → Tail → List ℕ → Option Tail
tails e tail [] = Some tail
tails e tail (byte ∷ bytes) = goes_on (next_tail e tail byte) (λ next. tails e next bytes)

-- the bytes are whole characters of the encoding
abbrev pub IsText : Encoding → List ℕ → Type 0
IsText e bytes = tails e Whole bytes ≡ Some Whole

-- the text of these bytes, in UTF-8
abbrev pub utf8_of : Encoding → List ℕ → List ℕ
utf8_of Utf8 bytes = bytes
utf8_of Ascii bytes = bytes
utf8_of Latin1 bytes = flat_map encode_utf8 bytes
