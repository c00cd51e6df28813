-- The rows of a table: pairs of a name, as bytes, and a value.
use Rattle.std.specs.Prelude.{◌≡◌, ℕ, Bool, true, List, Option, find, option_map, AllPairs, slice_get, length, ◌-◌}
use Rattle.std.specs.Option.{option_map_or}
use Rattle.std.specs.Cmp.Lexicographic.{slice_cmp}
use Rattle.std.specs.Ordering.{nat_cmp, is_lt}
use Rattle.std.specs.Str.{bytes_eq}
use Rattle.std.specs.declared.cmp.Ordering.{Ordering}
use Rattle.std.specs.declared.cmp.Ordering.TheVariants.{Less}

-- names are ordered by their bytes
abbrev pub name_cmp : List ℕ → List ℕ → Ordering
name_cmp = slice_cmp nat_cmp

-- the value of the first row with this name
abbrev pub value_at : {T : Type 0} → List ℕ → List (List ℕ × T) → Option T
value_at name rows = option_map (λ row. row.1) (find (λ row. bytes_eq row.0 name) rows)

abbrev pub last_row : {T : Type 0} → List (List ℕ × T) → Option (List ℕ × T)
last_row rows = slice_get rows (length rows - 1)

-- whether a row with this name may stand after these rows: the last name, if any, is below it
abbrev pub may_follow : {T : Type 0} → List (List ℕ × T) → List ℕ → Bool
may_follow rows name = option_map_or (λ row. is_lt (name_cmp row.0 name)) (last_row rows) true

-- each name is below the names of all later rows
abbrev pub NamesRise : {T : Type 0} → List (List ℕ × T) → Type 0
NamesRise rows = AllPairs (λ row later. name_cmp row.0 later.0 ≡ Less) rows
