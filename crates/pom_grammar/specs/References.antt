-- Characters that are written as references.
use Rattle.std.specs.Prelude.{length, ℕ, zero, suc, ◌+◌, ◌-◌, ◌*◌, Bool, true, false, if◌then◌else◌, not, ◌&&◌, List, [], ◌∷◌, ◌++◌, Option, Some, None, nat_lt, ◌==◌, codes, encode_utf8}
use Rattle.ascii_bytes.specs.Signs.{semicolon, number_sign, ampersand, apostrophe, greater_than, less_than, quotation_mark}
use Rattle.ascii_bytes.specs.Classes.{between, is_digit}
use Rattle.pom_grammar.specs.declared.encoding.Encoding.{Encoding}
use Rattle.pom_grammar.specs.Characters.{begins_with}
use Rattle.pom_grammar.specs.Encodings.{utf8_of}

-- a reference after its `&`: how many bytes it has there, and its character
pub data Meaning : Type 0 where
  none : Meaning
  means : ℕ → ℕ → Meaning

abbrev pub or_else : Meaning → Meaning → Meaning
or_else none other = other
or_else (means len char) other = means len char

abbrev pub if_begins : List ℕ → ℕ → ℕ → List ℕ → Meaning
if_begins name len char text = if begins_with name text then means len char else none

-- the five named entities of XML, each with its character
abbrev pub entity_rows : List (List ℕ × ℕ)
entity_rows =
    (codes "amp", ampersand) ∷ (codes "apos", apostrophe) ∷ (codes "gt", greater_than) ∷ (codes "lt", less_than)
    ∷ (codes "quot", quotation_mark) ∷ []

-- the entity that begins a text, its name ended by a semicolon
abbrev pub named_in : List (List ℕ × ℕ) → List ℕ → Meaning
named_in [] text = none
named_in (row ∷ rows) text = or_else (if_begins (row.0 ++ codes ";") (length row.0 + 1) row.1 text) (named_in rows text)

abbrev pub named : List ℕ → Meaning
named text = named_in entity_rows text

-- a Unicode scalar value above 0
abbrev pub is_character : ℕ → Bool
is_character n = nat_lt 0 n && (nat_lt n 1114112 && not (between 55296 57343 n))

abbrev pub digit_of : Bool → ℕ → Option ℕ
digit_of hex c =
    if is_digit c then Some (c - 48) else
    if hex && between 97 102 c then Some (c - 87) else if hex && between 65 70 c then Some (c - 55) else None

abbrev pub base_of : Bool → ℕ
base_of true = 16
base_of false = 10

-- after so many bytes, the last of them digits of this value: what ends the number
abbrev pub number_end : Bool → ℕ → ℕ → ℕ → Meaning
number_end some len value c = if c == semicolon && (some && is_character value) then means (len + 1) value else none

abbrev pub on_digit : Option ℕ → (ℕ → Meaning) → Meaning → Meaning
on_digit None f other = other
on_digit (Some digit) f other = f digit

abbrev pub number_from : Bool → Bool → ℕ → ℕ → List ℕ → Meaning
number_from hex some len value [] = none
number_from hex some len value (c ∷ text) =
    on_digit (digit_of hex c) (λ digit. number_from hex true (len + 1) (value * base_of hex + digit) text)
    (number_end some len value c)

abbrev pub hexadecimal : List ℕ → Meaning
hexadecimal [] = none
hexadecimal (c ∷ text) = if c == 120 then number_from true false 2 0 text else number_from false false 1 0 (c ∷ text)

abbrev pub numbered : List ℕ → Meaning
numbered [] = none
numbered (c ∷ text) = if c == number_sign then hexadecimal text else none

-- what a text means after a `&`
abbrev pub reference : List ℕ → Meaning
reference text = or_else (named text) (numbered text)

abbrev pub meaning_at : ℕ → List ℕ → Meaning
meaning_at c text = if c == ampersand then reference text else none

-- A run of characters with its references put in: what the byte c stands for, where so many bytes
-- are left of a reference and the text follows, and how many are left after it.
abbrev pub meant : Encoding → ℕ → Meaning → List ℕ
meant e c none = utf8_of e (c ∷ [])
meant e c (means len char) = encode_utf8 char

abbrev pub piece : Encoding → ℕ → ℕ → List ℕ → List ℕ
piece e zero c text = meant e c (meaning_at c text)
piece e (suc left) c text = []

abbrev pub length_of : Meaning → ℕ
length_of none = 0
length_of (means len char) = len

abbrev pub left_after : ℕ → ℕ → List ℕ → ℕ
left_after zero c text = length_of (meaning_at c text)
left_after (suc left) c text = left

abbrev pub expanded_from : Encoding → ℕ → List ℕ → List ℕ
expanded_from e left [] = []
expanded_from e left (c ∷ text) = piece e left c text ++ expanded_from e (left_after left c text) text

abbrev pub expanded : Encoding → List ℕ → List ℕ
expanded e run = expanded_from e 0 run
