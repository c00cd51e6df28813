-- Where a project is found: the repositories are tried in their listed order.
use Rattle.std.specs.Prelude.{◌≡◌, ℕ, zero, suc, ◌+◌, ◌<◌, Bool, true, false, Option, None, Some, List, [], ◌∷◌, ◌++◌, if◌then◌else◌, length, replicate, slice_get, IsSome}
use Rattle.std.specs.Option.{option_and_then}
use Rattle.res_base.specs.Builders.{key_of}
use Rattle.res_base.specs.Known.{Known}
use Rattle.res_base.specs.Paths.{pom_path_of}
use Rattle.res_base.specs.Plain.{is_plain_coord}
use Rattle.res_base.specs.declared.coord.Coord.{Coord}
use Rattle.res_base.specs.declared.key.FileKey.{FileKey}
use Rattle.res_base.specs.declared.key.Role.TheVariants as roles
use Rattle.res_base.specs.declared.pom.PomRecord.{PomRecord}
use Rattle.res_base.specs.declared.reading.Reading.{Reading}
use Rattle.res_base.specs.declared.reading.Reading.TheVariants as readings
use Rattle.res_base.specs.declared.reading.Reason.{Reason}
use Rattle.res_base.specs.declared.reading.Reason.TheVariants as reasons
use Rattle.project_lookup.specs.declared.looks.Look.{Look}
use Rattle.project_lookup.specs.declared.looks.Look.TheVariants as looks

-- what a look-up gives
pub data Looked : Type 0 where
  found : ℕ → PomRecord → Looked
  missing : FileKey → Looked
  not_found : List Reason → Looked

-- an answer of the code, without its reference
abbrev pub seen : Look → Looked
seen (looks.Found repo pom) = found repo pom.now
seen (looks.Missing key) = missing key
seen (looks.NotFound why) = not_found why

abbrev pub is_missing : Looked → Bool
is_missing (found repo pom) = false
is_missing (missing key) = true
is_missing (not_found why) = false

-- what one repository gives: a project, or a reason
pub data Tried : Type 0 where
  project : PomRecord → Tried
  refused : Reason → Tried

-- listings and stored files never stand at a POM's key
abbrev pub tried : Reading → Tried
tried (readings.Pom pom) = project pom
tried (readings.Listing versions) = refused reasons.Absent
tried (readings.Stored len) = refused reasons.Absent
tried (readings.NotReadable fault) = refused (reasons.NotReadable fault)
tried readings.Absent = refused reasons.Absent
tried (readings.Damaged damage) = refused (reasons.Damaged damage)
tried readings.TooLarge = refused reasons.TooLarge

abbrev pub or_later : ℕ → Tried → (Reason → Looked) → Looked
or_later repo (project pom) later = found repo pom
or_later repo (refused reason) later = later reason

-- one repository, where `later` says what the next ones give after a reason
abbrev pub at_repo : FileKey → Option Reading → (Reason → Looked) → Looked
at_repo key None later = missing key
at_repo key (Some reading) later = or_later key.repo (tried reading) later

-- the repositories from one on, of which so many are left, after these reasons
abbrev pub look_from : Known → List ℕ → ℕ → ℕ → List Reason → Looked
look_from known path repo zero why = not_found why
look_from known path repo (suc left) why =
    at_repo (key_of repo roles.Pom path) (known (key_of repo roles.Pom path))
    (λ reason. look_from known path (repo + 1) left (why ++ reason ∷ []))

-- a coordinate that is not plain is not found, and no key is asked
abbrev pub look_of : Known → ℕ → Coord → Looked
look_of known repos c =
    if is_plain_coord c then look_from known (pom_path_of c) 0 repos [] else not_found (replicate repos reasons.BadName)

-- The same, in words of single repositories.

abbrev pub pom_key : Coord → ℕ → FileKey
pom_key c repo = key_of repo roles.Pom (pom_path_of c)

abbrev pub reason_in : Tried → Option Reason
reason_in (project pom) = None
reason_in (refused reason) = Some reason

-- the reason of a repository that is known to have no readable POM
abbrev pub reason_at : Known → Coord → ℕ → Option Reason
reason_at known c repo = option_and_then (λ reading. reason_in (tried reading)) (known (pom_key c repo))

-- all repositories before this one are known to have no readable POM
abbrev pub NoneBefore : Known → Coord → ℕ → Type 0
NoneBefore known c repo = (earlier : ℕ) → earlier < repo → IsSome (reason_at known c earlier)

abbrev pub IsLook : Known → ℕ → Coord → Looked → Type 0
IsLook known repos c (found repo pom) =
    (repo < repos) × (known (pom_key c repo) ≡ Some (readings.Pom pom)) × NoneBefore known c repo
IsLook known repos c (missing key) =
    (repo : ℕ) × (repo < repos) × (key ≡ pom_key c repo) × (known key ≡ None) × NoneBefore known c repo
IsLook known repos c (not_found why) =
    (length why ≡ repos) × ((repo : ℕ) → repo < repos → reason_at known c repo ≡ slice_get why repo)
