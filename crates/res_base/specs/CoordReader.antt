-- A reader of coordinates that goes over their text byte by byte.
use Rattle.std.specs.Prelude.{◌≡◌, ℕ, Bool, true, false, if◌then◌else◌, ◌&&◌, List, [], ◌∷◌, ◌++◌, Option, Some, None, ◌==◌}
use Rattle.std.specs.List.{list_all}
use Rattle.ascii_bytes.specs.Classes.{is_word_byte, is_plain_byte}
use Rattle.ascii_bytes.specs.Signs.{colon}
use Rattle.fault_place.specs.Reader.{Reader, reads}
use Rattle.res_base.specs.Builders.{coord_of}
use Rattle.res_base.specs.Plain.{is_dot, goes_on_as_org, is_plain_org, is_plain_name}
use Rattle.res_base.specs.CoordText.{is_constraint_byte, is_constraint_text}
use Rattle.res_base.specs.declared.coord.Coord.{Coord}

-- the texts of the parts so far; in the org also whether a byte of a part came last
pub data State : Type 0 where
  in_org : List ℕ → Bool → State
  in_name : List ℕ → List ℕ → State
  in_constraint : List ℕ → List ℕ → List ℕ → State

abbrev pub step : State → ℕ → Option State
step (in_org org in_part) b =
    if is_word_byte b then Some (in_org (org ++ b ∷ []) true) else
    if is_dot b && in_part then Some (in_org (org ++ b ∷ []) false) else
    if b == colon && in_part then Some (in_name org []) else None
step (in_name org name) b =
    if is_plain_byte b then Some (in_name org (name ++ b ∷ [])) else
    if b == colon && is_plain_name name then Some (in_constraint org name []) else None
step (in_constraint org name text) b =
    if is_constraint_byte b then Some (in_constraint org name (text ++ b ∷ [])) else None

abbrev pub outcome : State → Option Coord
outcome (in_org org in_part) = None
outcome (in_name org name) = None
outcome (in_constraint org name text) = if is_constraint_text text then Some (coord_of org name text) else None

pub record FitsOrg (org : List ℕ) (in_part : Bool) (prefix : List ℕ) : Type 0 where
  pub whole : prefix ≡ org
  pub goes_on : (text : List ℕ) → is_plain_org (org ++ text) ≡ goes_on_as_org in_part text

pub record FitsName (org name prefix : List ℕ) : Type 0 where
  pub whole : prefix ≡ org ++ colon ∷ name
  pub plain_org : is_plain_org org ≡ true
  pub bytes : list_all is_plain_byte name ≡ true

pub record FitsConstraint (org name text prefix : List ℕ) : Type 0 where
  pub whole : prefix ≡ org ++ colon ∷ (name ++ colon ∷ text)
  pub plain_org : is_plain_org org ≡ true
  pub plain_name : is_plain_name name ≡ true
  pub bytes : list_all is_constraint_byte text ≡ true

-- what a prefix looks like that leads to a state
abbrev pub Fits : State → List ℕ → Type 0
Fits (in_org org in_part) prefix = FitsOrg org in_part prefix
Fits (in_name org name) prefix = FitsName org name prefix
Fits (in_constraint org name text) prefix = FitsConstraint org name text prefix

abbrev pub coord_reader : Reader State Coord
coord_reader = record { start = in_org [] false; step = step; outcome = outcome; Fits = Fits }

-- the coordinate that a text spells, where it spells one
abbrev pub coord_in : List ℕ → Option Coord
coord_in text = reads coord_reader text coord_reader.start
