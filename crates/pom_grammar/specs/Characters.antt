-- The bytes that the grammar tells apart. A byte of 80 hexadecimal or more belongs to a character
-- past ASCII: the encodings that are read keep the ASCII bytes for the ASCII characters.
use Rattle.std.specs.Prelude.{ℕ, Bool, true, false, if◌then◌else◌, ◌&&◌, ◌||◌, List, [], ◌∷◌, ◌++◌, nat_le, ◌==◌}
use Rattle.std.specs.List.{list_all}
use Rattle.ascii_bytes.specs.Classes.{is_letter, is_digit, is_white}
use Rattle.ascii_bytes.specs.Parts.{trim_start, trim_end}
use Rattle.ascii_bytes.specs.Signs.{dash, dot, colon, underscore}

abbrev pub is_high : ℕ → Bool
is_high c = nat_le 128 c

-- an ASCII letter, `_`, `:` or a character past ASCII
abbrev pub is_name_start : ℕ → Bool
is_name_start c = is_letter c || (c == underscore || (c == colon || is_high c))

-- these, a digit, `-` or `.`
abbrev pub is_name_byte : ℕ → Bool
is_name_byte c = is_name_start c || (is_digit c || (c == dash || c == dot))

abbrev pub has_some : List ℕ → Bool
has_some [] = false
has_some (c ∷ text) = true

abbrev pub is_empty : List ℕ → Bool
is_empty [] = true
is_empty (c ∷ text) = false

-- whether a text begins with another
abbrev pub begins_with : List ℕ → List ℕ → Bool
begins_with [] text = true
begins_with (a ∷ prefix) [] = false
begins_with (a ∷ prefix) (c ∷ text) = c == a && begins_with prefix text

-- a name: its first byte, and the others
abbrev pub is_name : List ℕ → Bool
is_name [] = false
is_name (c ∷ name) = is_name_start c && list_all is_name_byte name

-- what stands after the first colon, or the whole where there is none
abbrev pub local_from : List ℕ → List ℕ → List ℕ
local_from whole [] = whole
local_from whole (c ∷ name) = if c == colon then name else local_from whole name

abbrev pub local : List ℕ → List ℕ
local name = local_from name name

-- a text without the white space at its start, and at its end
abbrev pub skip_space : List ℕ → List ℕ
skip_space text = trim_start is_white text

abbrev pub cut_space : List ℕ → List ℕ
cut_space text = trim_end is_white text

-- bytes in their order, where they are given with the last first; and a text put onto such bytes
abbrev pub forward : List ℕ → List ℕ
forward [] = []
forward (c ∷ seen) = forward seen ++ c ∷ []

abbrev pub onto : List ℕ → List ℕ → List ℕ
onto [] seen = seen
onto (c ∷ text) seen = onto text (c ∷ seen)
