-- What the text of a coordinate is.
use Rattle.std.specs.Prelude.{◌≡◌, ℕ, Bool, true, not, ◌&&◌, ◌||◌, List, ◌∷◌, ◌++◌, length, nat_le, ◌==◌}
use Rattle.std.specs.List.{list_all}
use Rattle.ascii_bytes.specs.Classes.{is_plain_byte}
use Rattle.ascii_bytes.specs.Signs.{opening_bracket, closing_bracket, opening_parenthesis, closing_parenthesis, comma, colon}
use Rattle.res_base.specs.Plain.{is_plain_org, is_plain_name}
use Rattle.res_base.specs.declared.coord.Coord.{Coord}

-- plain bytes and the signs of intervals: [ ] ( ) and ,
abbrev pub is_constraint_byte : ℕ → Bool
is_constraint_byte byte =
    is_plain_byte byte || (byte == opening_bracket || (byte == closing_bracket
    || (byte == opening_parenthesis || (byte == closing_parenthesis || byte == comma))))

-- one or more of these
abbrev pub is_constraint_text : List ℕ → Bool
is_constraint_text text = list_all is_constraint_byte text && not (nat_le (length text) 0)

-- ORG:NAME:CONSTRAINT, with the constraint as the version
pub record IsCoordText (text : List ℕ) (coord : Coord) : Type 0 where
  pub whole : text ≡ coord.«module».org ++ colon ∷ (coord.«module».name ++ colon ∷ coord.version)
  pub org : is_plain_org coord.«module».org ≡ true
  pub name : is_plain_name coord.«module».name ≡ true
  pub constraint : is_constraint_text coord.version ≡ true
