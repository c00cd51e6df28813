-- At which place of a list of rows a URL stands first.
use Rattle.std.specs.Prelude.{ℕ, ◌+◌, ◌≡◌, List, [], ◌∷◌, Option, Some, None, drop, if◌then◌else◌, slice_get}
use Rattle.std.specs.Option.{option_map}
use Rattle.std.specs.declared.hash.FoldHasher.{FoldHasher}
use Rattle.std.specs.declared.hash.BuildHasherDefault.{BuildHasherDefault}
use Rattle.indexmap.specs.IndexMap.{IndexMap, get}
use Rattle.res_base.specs.Names.{text_eq}
use Rattle.res_base.specs.declared.world.WorldRow.{WorldRow}

abbrev pub Table : Type 0
Table = IndexMap (List ℕ) ℕ (BuildHasherDefault FoldHasher)

-- the place of the first row with this URL, where the first of the rows has the place i
abbrev pub place_from : ℕ → List WorldRow → List ℕ → Option ℕ
place_from i [] url = None
place_from i (row ∷ rows) url = if text_eq row.url url then Some i else place_from (i + 1) rows url

-- the table has the places of all URLs of the rows from this place on
abbrev pub HasPlaces : Table → ℕ → List WorldRow → Type 0
HasPlaces table from rows = (url : List ℕ) → get text_eq table url ≡ place_from from (drop from rows) url

-- the bytes of the row at a place
abbrev pub bytes_at : List WorldRow → Option ℕ → Option (List ℕ)
bytes_at rows None = None
bytes_at rows (Some place) = option_map (λ row. row.bytes) (slice_get rows place)
