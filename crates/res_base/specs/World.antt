-- What a world holds at a URL. A world is a list of files by URL, as a Maven 2 repository lays them out.
use Rattle.std.specs.Prelude.{ℕ, Option, Some, None, List, [], ◌∷◌, if◌then◌else◌}
use Rattle.res_base.specs.Names.{text_eq}
use Rattle.res_base.specs.declared.world.WorldRow.{WorldRow}

-- the bytes of the first row with this URL
abbrev pub at : List WorldRow → List ℕ → Option (List ℕ)
at [] url = None
at (row ∷ rows) url = if text_eq row.url url then Some row.bytes else at rows url
