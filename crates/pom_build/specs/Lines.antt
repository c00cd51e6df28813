-- The line of a project, after the Maven POM reference: the project, its parent, the parent's parent, and so on.
use Rattle.std.specs.Prelude.{ℕ, zero, suc, Bool, Option, None, Some, List, [], ◌∷◌, ◌++◌, map, if◌then◌else◌}
use Rattle.std.specs.List.{list_any}
use Rattle.res_base.specs.Known.{Known}
use Rattle.res_base.specs.Names.{coord_eq}
use Rattle.res_base.specs.declared.coord.Coord.{Coord}
use Rattle.project_lookup.specs.Looks.{Looked, found, missing, not_found, look_of}
use Rattle.pom_build.specs.Outcomes.{unless_met}
use Rattle.pom_build.specs.Projects.{FoundProject, project_of}
use Rattle.pom_build.specs.declared.build.BuildFault.TheVariants.{ParentCycle, TooDeep, LineAbsent}
use Rattle.pom_build.specs.declared.line.Line.{Line}
use Rattle.pom_build.specs.declared.outcome.Outcome.{Outcome}
use Rattle.pom_build.specs.declared.outcome.Outcome.TheVariants.{Built, Needs, NotFound, Refused}

abbrev pub is_among : Coord → List Coord → Bool
is_among c path = list_any (coord_eq c) path

abbrev pub projects_of : Line → List FoundProject
projects_of line = line.own ∷ line.parents

abbrev pub path_of : Line → List Coord
path_of line = map (λ project. project.coord) (projects_of line)

abbrev pub is_on : Coord → Line → Bool
is_on c line = list_any (λ project. coord_eq c project.coord) (projects_of line)

abbrev pub with_parent : Line → FoundProject → Line
with_parent line project = record line { parents = line.parents ++ project ∷ [] }

-- a line ends with a project without a parent
abbrev pub on_parent : Option Coord → Line → (Coord → Outcome Line) → Outcome Line
on_parent None line further = Built line
on_parent (Some parent) line further = further parent

-- a parent is looked up
abbrev pub on_look : Looked → Line → Coord → (Line → Option Coord → Outcome Line) → Outcome Line
on_look (found repo pom) line c further = further (with_parent line (project_of c repo pom)) pom.parent
on_look (missing key) line c further = Needs (key ∷ [])
on_look (not_found why) line c further = Refused (LineAbsent c why)

-- one more parent, unless the line has its coordinate
abbrev pub climbed : Known → ℕ → Line → (Line → Option Coord → Outcome Line) → Coord → Outcome Line
climbed known repos line further c = unless_met (is_on c line) (ParentCycle (path_of line ++ c ∷ [])) (λ parent. on_look (look_of known repos parent) line parent further) c

-- no parent more, and one that the line has is a cycle here too
abbrev pub past_limit : Line → Coord → Outcome Line
past_limit line c = Refused (if is_on c line then ParentCycle (path_of line ++ c ∷ []) else TooDeep (path_of line ++ c ∷ []))

-- a line goes on from its last project, whose parent is next, with at most so many more
abbrev pub line_from : Known → ℕ → ℕ → Line → Option Coord → Outcome Line
line_from known repos zero line next = on_parent next line (past_limit line)
line_from known repos (suc left) line next = on_parent next line (climbed known repos line (line_from known repos left))

-- a project that is not found is not refused
abbrev pub started : Looked → Coord → (Line → Option Coord → Outcome Line) → Outcome Line
started (found repo pom) c further = further (record { own = project_of c repo pom; parents = [] }) pom.parent
started (missing key) c further = Needs (key ∷ [])
started (not_found why) c further = NotFound why

-- with at most so many parents
abbrev pub line_within : ℕ → Known → ℕ → Coord → Outcome Line
line_within most known repos c = started (look_of known repos c) c (line_from known repos most)

-- at most 32 projects
unfoldable pub line_of : Known → ℕ → Coord → Outcome Line
line_of = line_within 31
