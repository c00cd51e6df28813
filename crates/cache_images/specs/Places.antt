-- The names of the cache: for a data file its record and its absence record, for an open part itself and its record.
use Rattle.std.specs.Prelude.{ℕ, ◌≡◌, ◌++◌, true, List, codes}
use Rattle.std.specs.Fmt.{decimal}
use Rattle.cache_layout.specs.Names.{is_data_name}

abbrev pub IsDataName : List ℕ → Type 0
IsDataName name = is_data_name name ≡ true

abbrev pub record_name : List ℕ → List ℕ
record_name name = codes "records/" ++ name

abbrev pub gone_name : List ℕ → List ℕ
gone_name name = codes "gone/" ++ name

abbrev pub part_name : ℕ → List ℕ
part_name k = codes "parts/" ++ (decimal k ++ codes ".part")

abbrev pub record_part_name : ℕ → List ℕ
record_part_name k = codes "parts/" ++ (decimal k ++ codes ".rec")

-- a name among the parts
pub record IsPartName (name : List ℕ) : Type 0 where
  pub rest : List ℕ
  pub begins : name ≡ codes "parts/" ++ rest
