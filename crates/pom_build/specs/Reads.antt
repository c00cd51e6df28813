-- The keys that are looked at to build a project, in order, known or not.
use Rattle.std.specs.Prelude.{◌≡◌, ⊤, ℕ, zero, suc, ◌+◌, Bool, true, false, Option, None, Some, List, [], ◌∷◌, ◌++◌, filter, if◌then◌else◌}
use Rattle.res_base.specs.Builders.{key_of}
use Rattle.res_base.specs.Known.{Known}
use Rattle.res_base.specs.Paths.{pom_path_of}
use Rattle.res_base.specs.Plain.{is_plain_coord}
use Rattle.res_base.specs.declared.coord.Coord.{Coord}
use Rattle.res_base.specs.declared.key.FileKey.{FileKey}
use Rattle.res_base.specs.declared.key.Role.TheVariants as roles
use Rattle.res_base.specs.declared.pom.DepRecord.{DepRecord}
use Rattle.res_base.specs.declared.pom.PomRecord.{PomRecord}
use Rattle.res_base.specs.declared.reading.Reading.{Reading}
use Rattle.project_lookup.specs.Looks.{Looked, found, missing, not_found, look_of, Tried, project, refused, tried}
use Rattle.pom_build.specs.Imports.{import_coord, is_import, managed_rows}
use Rattle.pom_build.specs.Lines.{is_among, is_on, line_of, with_parent}
use Rattle.pom_build.specs.Projects.{project_of}
use Rattle.pom_build.specs.declared.line.Line.{Line}
use Rattle.pom_build.specs.declared.outcome.Outcome.{Outcome}
use Rattle.pom_build.specs.declared.outcome.Outcome.TheVariants.{Built, Needs, NotFound, Refused}

-- two maps have the same at each of these keys
abbrev pub Agree : Known → Known → List FileKey → Type 0
Agree known other [] = ⊤
Agree known other (key ∷ keys) = (other key ≡ known key) × Agree known other keys

-- behind a reason the next repository is looked at
abbrev pub behind_tried : Tried → List FileKey → List FileKey
behind_tried (project pom) later = []
behind_tried (refused why) later = later

abbrev pub behind_reading : Option Reading → List FileKey → List FileKey
behind_reading None later = []
behind_reading (Some reading) later = behind_tried (tried reading) later

abbrev pub keys_from : Known → List ℕ → ℕ → ℕ → List FileKey
keys_from known path repo zero = []
keys_from known path repo (suc left) = key_of repo roles.Pom path ∷ behind_reading (known (key_of repo roles.Pom path)) (keys_from known path (repo + 1) left)

-- the keys of a look-up, up to its answer
abbrev pub look_keys : Known → ℕ → Coord → List FileKey
look_keys known repos c = if is_plain_coord c then keys_from known (pom_path_of c) 0 repos else []

-- what is looked at behind a look-up that finds a project
abbrev pub behind_look : Looked → (ℕ → PomRecord → List FileKey) → List FileKey
behind_look (found repo pom) further = further repo pom
behind_look (missing key) further = []
behind_look (not_found why) further = []

abbrev pub of_next : Option Coord → (Coord → List FileKey) → List FileKey
of_next None further = []
of_next (Some c) further = further c

-- a coordinate that was met before is not looked up
abbrev pub unless_seen : Bool → (Coord → List FileKey) → Coord → List FileKey
unless_seen true keys c = []
unless_seen false keys c = keys c

-- the keys of the parents behind a line, of which so many may be looked up
abbrev pub parent_keys : Known → ℕ → ℕ → Line → Option Coord → List FileKey
parent_keys known repos zero line next = []
parent_keys known repos (suc left) line next =
    of_next next (λ c. unless_seen (is_on c line) (λ parent. look_keys known repos parent ++ behind_look (look_of known repos parent) (λ repo pom. parent_keys known repos left (with_parent line (project_of parent repo pom)) pom.parent)) c)

-- the keys of a line: those of its look-ups
abbrev pub line_keys : Known → ℕ → Coord → List FileKey
line_keys known repos c =
    look_keys known repos c ++ behind_look (look_of known repos c) (λ repo pom. parent_keys known repos 31 (record { own = project_of c repo pom; parents = [] }) pom.parent)

abbrev pub keys_of_all : (Coord → List FileKey) → List DepRecord → List FileKey
keys_of_all keys [] = []
keys_of_all keys (row ∷ rows) = keys (import_coord row) ++ keys_of_all keys rows

-- all imports of a line are looked at
abbrev pub import_keys : (Coord → List FileKey) → Outcome Line → List FileKey
import_keys keys (Built line) = keys_of_all keys (filter is_import (managed_rows line))
import_keys keys (Needs more) = []
import_keys keys (NotFound why) = []
import_keys keys (Refused fault) = []

-- the keys of an imported project behind a chain of others, with at most so many projects more
abbrev pub managed_keys : Known → ℕ → ℕ → List Coord → Coord → List FileKey
managed_keys known repos zero chain c = []
managed_keys known repos (suc left) chain c =
    unless_seen (is_among c chain) (λ one. line_keys known repos one ++ import_keys (managed_keys known repos left (chain ++ one ∷ [])) (line_of known repos one)) c

-- all keys that are looked at to build a project
abbrev pub effective_keys : Known → ℕ → Coord → List FileKey
effective_keys known repos c = line_keys known repos c ++ import_keys (managed_keys known repos 31 (c ∷ [])) (line_of known repos c)
