-- The turn of a name's row.
use Rattle.std.specs.Prelude.{ℕ, List, Option, Some, None}
use Rattle.std.specs.declared.hash.FoldHasher.{FoldHasher}
use Rattle.std.specs.declared.hash.BuildHasherDefault.{BuildHasherDefault}
use Rattle.indexmap.specs.IndexMap.{IndexMap, get}
use Rattle.res_base.specs.Names.{text_eq}
use Rattle.disk_base.specs.declared.rows.Row.{Row}

abbrev pub Rows : Type 0
Rows = IndexMap (List ℕ) Row (BuildHasherDefault FoldHasher)

abbrev pub turn_in : Option Row → ℕ
turn_in None = 0
turn_in (Some row) = row.turn

abbrev pub turn_of : Rows → List ℕ → ℕ
turn_of rows name = turn_in (get text_eq rows name)
