-- Values from texts, for rows that compute.
use Rattle.std.specs.Prelude.{ℕ, List}
use Rattle.res_base.specs.declared.coord.Module.{Module}
use Rattle.res_base.specs.declared.coord.Coord.{Coord}
use Rattle.res_base.specs.declared.key.FileKey.{FileKey}
use Rattle.res_base.specs.declared.key.Role.{Role}
use Rattle.res_base.specs.declared.world.WorldRow.{WorldRow}

abbrev pub module_of : List ℕ → List ℕ → Module
module_of org name = record { org = org; name = name }

abbrev pub coord_of : List ℕ → List ℕ → List ℕ → Coord
coord_of org name version = record { «module» = module_of org name; version = version }

abbrev pub key_of : ℕ → Role → List ℕ → FileKey
key_of repo role path = record { repo = repo; role = role; path = path }

abbrev pub row_of : List ℕ → List ℕ → WorldRow
row_of url bytes = record { url = url; bytes = bytes }
