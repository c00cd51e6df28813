-- The lines of a verdict that is not settled, and of files that did not come whole.
use Rattle.std.specs.Prelude.{ℕ, ◌-◌, List, [], ◌∷◌, ◌++◌, Option, None, Some, codes, length, slice_get}
use Rattle.std.specs.Fmt.{decimal}
use Rattle.std.specs.List.{flat_map, zip}
use Rattle.class_path.specs.declared.rows.FileRow.{FileRow}
use Rattle.pom_build.specs.declared.build.BuildFault.{BuildFault}
use Rattle.pom_build.specs.declared.build.BuildFault.TheVariants as builds
use Rattle.reconcile_rules.specs.declared.request.Asker.{Asker}
use Rattle.reconcile_rules.specs.declared.request.Asker.TheVariants as askers
use Rattle.reconcile_rules.specs.declared.request.Clash.{Clash}
use Rattle.reconcile_rules.specs.declared.request.Clash.TheVariants as clashes
use Rattle.reconcile_rules.specs.declared.request.Request.{Request}
use Rattle.res_base.specs.Paths.{url_at}
use Rattle.res_base.specs.declared.coord.Coord.{Coord}
use Rattle.res_base.specs.declared.coord.Module.{Module}
use Rattle.res_base.specs.declared.reading.Reading.{Reading}
use Rattle.res_base.specs.declared.reading.Reading.TheVariants as readings
use Rattle.res_base.specs.declared.reading.Reason.{Reason}
use Rattle.res_base.specs.declared.reading.Reason.TheVariants as reasons
use Rattle.resolution.specs.declared.verdict.ClashRow.{ClashRow}
use Rattle.resolution.specs.declared.verdict.FaultRow.{FaultRow}
use Rattle.resolution.specs.declared.verdict.ProjectFault.{ProjectFault}
use Rattle.resolution.specs.declared.verdict.ProjectFault.TheVariants as projects
use Rattle.verdict_print.specs.Reasons.{numbered, reason_text}

-- `org:name`
abbrev pub module_text : Module → List ℕ
module_text m = m.org ++ (codes ":" ++ m.name)

-- `org:name:version`
abbrev pub coord_text : Coord → List ℕ
coord_text c = module_text c.«module» ++ (codes ":" ++ c.version)

-- ---- clashes

abbrev pub clash_text : Clash → List ℕ
clash_text (clashes.Apart first second) = numbered (codes "apart") first ++ (codes " " ++ decimal second)
clash_text (clashes.Above at) = numbered (codes "above") at
clash_text (clashes.NotAccepted at) = numbered (codes "not-accepted") at
clash_text clashes.NoVersion = codes "no-version"
clash_text clashes.NoneListed = codes "none-listed"
clash_text (clashes.BadConstraint at) = numbered (codes "bad-constraint") at

-- who asks: a root of the words, or a project
abbrev pub asker_text : Asker → List ℕ
asker_text (askers.Root place) = codes "root"
asker_text (askers.Project coord) = coord_text coord

-- a dash for an empty text
abbrev pub asked_text : List ℕ → List ℕ
asked_text [] = codes "-"
asked_text (byte ∷ text) = byte ∷ text

abbrev pub request_line : Request → List ℕ
request_line request = codes "  " ++ (asker_text request.from ++ (codes " asks " ++ (asked_text request.text ++ codes "\n")))

-- a module whose requests do not go together, and its requests in order
abbrev pub clash_lines : ClashRow → List ℕ
clash_lines row =
    (codes "clash " ++ (module_text row.«module» ++ (codes " " ++ (clash_text row.clash ++ codes "\n"))))
    ++ flat_map request_line row.requests

-- ---- projects that are not there

-- an address and why its repository gave nothing
abbrev pub reason_line : List ℕ → Reason → List ℕ
reason_line address reason = codes "  " ++ (address ++ (codes " " ++ (reason_text reason ++ codes "\n")))

abbrev pub pair_line : List ℕ × Reason → List ℕ
pair_line (address, reason) = reason_line address reason

-- a line for each repository, in the listed order
abbrev pub reason_lines : List (List ℕ) → List Reason → List ℕ
reason_lines addresses reasons = flat_map pair_line (zip addresses reasons)

-- a space and a coordinate
abbrev pub coord_entry : Coord → List ℕ
coord_entry coord = codes " " ++ coord_text coord

abbrev pub path_text : List Coord → List ℕ
path_text path = flat_map coord_entry path

abbrev pub coord_or_dash : Option Coord → List ℕ
coord_or_dash None = codes "-"
coord_or_dash (Some coord) = coord_text coord

-- the last coordinate of a path
abbrev pub last_text : List Coord → List ℕ
last_text path = coord_or_dash (slice_get path (length path - 1))

-- why a project is refused, with what stands below that line
abbrev pub fault_lines : List (List ℕ) → BuildFault → List ℕ
fault_lines addresses (builds.ParentCycle path) = codes "parent-cycle" ++ (path_text path ++ codes "\n")
fault_lines addresses (builds.ImportCycle path) = codes "import-cycle" ++ (path_text path ++ codes "\n")
fault_lines addresses (builds.TooDeep path) = codes "too-deep " ++ (last_text path ++ codes "\n")
fault_lines addresses (builds.LineAbsent coord reasons) =
    (codes "line-absent " ++ (coord_text coord ++ codes "\n")) ++ reason_lines addresses reasons

abbrev pub project_lines : List (List ℕ) → Coord → ProjectFault → List ℕ
project_lines addresses coord (projects.NotFound reasons) =
    (codes "not-found " ++ (coord_text coord ++ codes "\n")) ++ reason_lines addresses reasons
project_lines addresses coord (projects.Refused fault) =
    codes "refused " ++ (coord_text coord ++ (codes " " ++ fault_lines addresses fault))

abbrev pub failed_lines : List (List ℕ) → FaultRow → List ℕ
failed_lines addresses row = project_lines addresses row.coord row.fault

-- ---- the end of rounds

abbrev pub unsettled_line : ℕ → List ℕ
unsettled_line rounds = numbered (codes "unsettled") rounds ++ codes "\n"

-- ---- files

-- why a file did not come whole, if it did not
abbrev pub missing_of : Reading → Option Reason
missing_of (readings.Pom pom) = None
missing_of (readings.Listing versions) = None
missing_of (readings.Stored size) = None
missing_of (readings.NotReadable fault) = Some (reasons.NotReadable fault)
missing_of readings.Absent = Some reasons.Absent
missing_of (readings.Damaged damage) = Some (reasons.Damaged damage)
missing_of readings.TooLarge = Some reasons.TooLarge

abbrev pub artifact_line : List ℕ → Option Reason → List ℕ
artifact_line url None = []
artifact_line url (Some reason) = codes "artifact " ++ (url ++ (codes " " ++ (reason_text reason ++ codes "\n")))

abbrev pub artifact_below : Option (List ℕ) → FileRow → List ℕ
artifact_below None row = []
artifact_below (Some address) row = artifact_line (url_at address row.key.path) (missing_of row.reading)

-- the line of a file that did not come whole
abbrev pub artifact_text : List (List ℕ) → FileRow → List ℕ
artifact_text addresses row = artifact_below (slice_get addresses row.key.repo) row
