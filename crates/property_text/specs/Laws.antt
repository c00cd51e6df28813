-- What the laws of cutting and filling cite.
use Rattle.std.specs.Prelude.{ℕ, Bool, false, ◌||◌, Option, List, [], ◌∷◌, ◌++◌, is_some}
use Rattle.property_text.specs.Filled.{as_written}
use Rattle.property_text.specs.Segments.{Segment, literal, hole}

-- segments, written out
abbrev pub written : List Segment → List ℕ
written [] = []
written (literal text ∷ rest) = text ++ written rest
written (hole name ∷ rest) = as_written name ++ written rest

-- whether some name has a value
abbrev pub has_value : (List ℕ → Option (List ℕ)) → List Segment → Bool
has_value value_of [] = false
has_value value_of (literal text ∷ rest) = has_value value_of rest
has_value value_of (hole name ∷ rest) = is_some (value_of name) || has_value value_of rest
