-- Rows whose values are the places of their names.
use Rattle.std.specs.Prelude.{ℕ, ◌+◌, Bool, true, false, ◌&&◌, ◌==◌, List, [], ◌∷◌, Option, Some, None, map, get_or}
use Rattle.case_table.specs.Rows.{value_at}

abbrev pub names_of : List (List ℕ × ℕ) → List (List ℕ)
names_of rows = map (λ row. row.0) rows

-- the name at a place
abbrev pub name_at : List (List ℕ × ℕ) → ℕ → List ℕ
name_at rows place = get_or (names_of rows) place []

abbrev pub is_place : Option ℕ → ℕ → Bool
is_place None place = false
is_place (Some found) place = found == place

-- a look-up of each of these names gives its place, counted from here
abbrev pub lead_to_places : List (List ℕ × ℕ) → List (List ℕ) → ℕ → Bool
lead_to_places rows [] place = true
lead_to_places rows (name ∷ names) place = is_place (value_at name rows) place && lead_to_places rows names (place + 1)

-- a look-up of each row's name gives the row's place
abbrev pub are_numbered : List (List ℕ × ℕ) → Bool
are_numbered rows = lead_to_places rows (names_of rows) 0
