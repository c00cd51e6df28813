-- The fields of a head, by their names (RFC 9110 section 5.1: names are compared without regard to case).
use Rattle.std.specs.Prelude.{ℕ, Bool, true, false, List, [], ◌∷◌, ◌++◌, map, bytes_eq}
use Rattle.std.specs.Char.{to_ascii_lowercase}

abbrev pub Bytes : Type 0
Bytes = List ℕ

-- a text with its ASCII letters lowered
abbrev pub lower_case : Bytes → Bytes
lower_case text = map to_ascii_lowercase text

-- a text is this name
abbrev pub is_name : Bytes → Bytes → Bool
is_name name text = bytes_eq (lower_case text) (lower_case name)

abbrev pub value_if : Bool → Bytes → List Bytes
value_if true value = value ∷ []
value_if false value = []

-- the values of all fields of this name, in order
abbrev pub field_values : Bytes → List (Bytes × Bytes) → List Bytes
field_values name [] = []
field_values name (field ∷ fields) = value_if (is_name name field.0) field.1 ++ field_values name fields
