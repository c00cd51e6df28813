-- What is known of the repositories' answers: a reading for some keys.
use Rattle.std.specs.Prelude.{◌≡◌, Option, Some, None, List, [], ◌∷◌, if◌then◌else◌, map}
use Rattle.std.specs.List.{IsDistinct}
use Rattle.res_base.specs.Names.{key_eq}
use Rattle.res_base.specs.declared.key.FileKey.{FileKey}
use Rattle.res_base.specs.declared.reading.Reading.{Reading}

abbrev pub Known : Type 0
Known = FileKey → Option Reading

-- the reading of the first pair with the key
abbrev pub known_of : List (FileKey × Reading) → Known
known_of [] key = None
known_of (pair ∷ pairs) key = if key_eq pair.0 key then Some pair.1 else known_of pairs key

-- each key that the first knows the second knows alike
abbrev pub Grows : Known → Known → Type 0
Grows before after = (key : FileKey) (reading : Reading) → before key ≡ Some reading → after key ≡ Some reading

-- no key stands in two pairs
abbrev pub HasDistinctKeys : List (FileKey × Reading) → Type 0
HasDistinctKeys pairs = IsDistinct key_eq (map (λ pair. pair.0) pairs)
