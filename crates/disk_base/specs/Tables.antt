-- The names of a disk in memory.
use Rattle.std.specs.Prelude.{ℕ, ◌==◌, List, [], ◌∷◌, Option, Some, None, IsSome, if◌then◌else◌, slice_get, ◌≡◌}
use Rattle.std.specs.Option.{option_map}
use Rattle.std.specs.List.Sorted.{IsStrictlySortedBy}
use Rattle.indexmap.specs.IndexMap.{get}
use Rattle.res_base.specs.Members.{Among}
use Rattle.res_base.specs.Names.{text_cmp, text_eq}
use Rattle.disk_base.specs.Names.{Names, no_names, put_at, settled, unbound, whole}
use Rattle.disk_base.specs.Turns.{Rows}
use Rattle.disk_base.specs.declared.contents.Bindings.{Bindings}
use Rattle.disk_base.specs.declared.rows.FirstName.{FirstName}
use Rattle.disk_base.specs.declared.rows.Row.{Row}
use Rattle.disk_base.specs.declared.rows.Table.{Table}

-- the bindings of a row at this turn
abbrev pub bindings_at : ℕ → Row → Bindings
bindings_at turn row = if row.turn == turn then row.bindings else settled row.bindings

abbrev pub bindings_in : ℕ → Option Row → Bindings
bindings_in turn None = unbound
bindings_in turn (Some row) = bindings_at turn row

abbrev pub names_in : Table → Names
names_in table name = bindings_in table.turn (get text_eq table.rows name)

-- the bindings of a name that has these firm bytes, or none
abbrev pub firmly : Option (List ℕ) → Bindings
firmly o = record { before = []; present = option_map whole o }

-- the names with which a log begins: the first row of a name counts
abbrev pub names_of : List FirstName → Names
names_of [] = no_names
names_of (row ∷ rows) = put_at row.name (firmly row.bytes) (names_of rows)

-- these are the names of the table's rows, by bytes
pub record HasNamesInOrder (table : Table) (names : List (List ℕ)) : Type 0 where
  pub rising : IsStrictlySortedBy text_cmp names
  pub all : (name : List ℕ) → IsSome (get text_eq table.rows name) → Among name names

-- the row at this place has this name
abbrev pub IsKeyAt : Rows → ℕ → List ℕ → Type 0
IsKeyAt rows i name = (row : Row) × (slice_get rows.entries i ≡ Some (name, row))
