-- The files of a settled resolution.
use Rattle.std.specs.Prelude.{◌≡◌, ◌<◌, ℕ, true, Option, None, Some, IsSome, List, [], ◌∷◌, ◌++◌}
use Rattle.std.specs.Prelude.{All, slice_get}
use Rattle.std.specs.List.{filter_map, flat_map}
use Rattle.ascii_bytes.specs.Signs.{colon}
use Rattle.artifact_files.specs.Files.{artifact_keys}
use Rattle.cache_layout.specs.Addresses.{IsAddress}
use Rattle.cache_layout.specs.Names.{name_of}
use Rattle.class_path.specs.declared.rows.FileRow.{FileRow}
use Rattle.project_lookup.specs.KnownPairs.{stands_at}
use Rattle.res_base.specs.Known.{Known}
use Rattle.res_base.specs.Paths.{url_at}
use Rattle.res_base.specs.declared.key.FileKey.{FileKey}
use Rattle.res_base.specs.declared.key.Role.TheVariants.{Artifact}
use Rattle.res_base.specs.declared.reading.Reading.{Reading}
use Rattle.resolution.specs.declared.settled.Settled.{Settled}

-- the row of a file whose repository and reading are there
abbrev pub row_of : FileKey → Option (List ℕ) → Option Reading → Option FileRow
row_of key None reading = None
row_of key (Some address) None = None
row_of key (Some address) (Some reading) =
    Some (record { key = key; name = name_of (url_at address key.path); reading = reading })

abbrev pub row_for : Known → List (List ℕ) → FileKey → Option FileRow
row_for known addresses key = row_of key (slice_get addresses key.repo) (known key)

-- each artifact, with its name in the cache and what is known of it, in the order of the artifacts
abbrev pub file_rows_of : Settled → Known → List (List ℕ) → List FileRow
file_rows_of settled known addresses = filter_map (row_for known addresses) (artifact_keys settled)

abbrev pub AreAllKnown : Known → List FileKey → Type 0
AreAllKnown known keys = All (λ key. IsSome (known key)) keys

-- each artifact is known
abbrev pub AreKnown : Known → Settled → Type 0
AreKnown known settled = AreAllKnown known (artifact_keys settled)

abbrev pub AreAddresses : List (List ℕ) → Type 0
AreAddresses addresses = All IsAddress addresses

-- a row of an artifact in one of so many repositories, with a reading that an artifact may have
pub record IsFileRow (count : ℕ) (row : FileRow) : Type 0 where
  pub repository : row.key.repo < count
  pub role : row.key.role ≡ Artifact
  pub reading : stands_at row.reading Artifact ≡ true

abbrev pub AreFileRows : ℕ → List FileRow → Type 0
AreFileRows count rows = All (λ (row : FileRow). IsFileRow count row) rows

-- ---- the class path

abbrev pub entry_of : List ℕ → FileRow → List ℕ
entry_of prefix row = prefix ++ row.name

abbrev pub next_entry : List ℕ → FileRow → List ℕ
next_entry prefix row = colon ∷ entry_of prefix row

-- the names after their prefixes, with a colon between two
abbrev pub class_path_of : List FileRow → List ℕ → List ℕ
class_path_of [] prefix = []
class_path_of (row ∷ rows) prefix = entry_of prefix row ++ flat_map (next_entry prefix) rows
