-- The name of a URL's file in the cache: where the repository is, and the rest of the URL.
use Rattle.std.specs.Prelude.{ℕ, ◌/◌, ◌%◌, Bool, ◌||◌, ◌==◌, List, [], ◌∷◌, ◌++◌, codes, drop, nat_eq, if◌then◌else◌, slice_index}
use Rattle.std.specs.List.{flat_map, starts_with}
use Rattle.ascii_bytes.specs.Classes.{is_plain_byte}
use Rattle.ascii_bytes.specs.Signs.{slash}
use Rattle.hex.specs.Hex.{upper_digits}

-- the sign `%`
abbrev pub percent : ℕ
percent = 37

-- A-Z a-z 0-9 . _ - + /
abbrev pub is_name_byte : ℕ → Bool
is_name_byte byte = is_plain_byte byte || byte == slash

-- such a byte as it is, and `%` and two hexadecimal digits for another one
abbrev pub escaped_byte : ℕ → List ℕ
escaped_byte byte =
    if is_name_byte byte then byte ∷ [] else
    percent ∷ slice_index upper_digits (byte / 16) ∷ slice_index upper_digits (byte % 16) ∷ []

abbrev pub escaped : List ℕ → List ℕ
escaped text = flat_map escaped_byte text

-- the name of a URL that begins with `http://`, `file:/` or else `file:`
abbrev pub name_of : List ℕ → List ℕ
name_of url =
    if starts_with nat_eq url (codes "http://") then codes "http/" ++ escaped (drop 7 url) else
    if starts_with nat_eq url (codes "file:/") then codes "file/" ++ escaped (drop 6 url) else
    codes "here/" ++ escaped (drop 5 url)

-- the names of data files
abbrev pub is_data_name : List ℕ → Bool
is_data_name name =
    starts_with nat_eq name (codes "http/") || (starts_with nat_eq name (codes "file/")
    || starts_with nat_eq name (codes "here/"))
