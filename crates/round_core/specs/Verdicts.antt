-- The verdict of settled choices.
use Rattle.std.specs.Prelude.{ℕ, Option, None, Some, List, [], ◌∷◌, ◌++◌, fold, map, unwrap_or}
use Rattle.std.specs.BTreeMap.{insert_entry}
use Rattle.std.specs.List.{flat_map}
use Rattle.std.specs.Ordering.{ordering_then}
use Rattle.std.specs.declared.cmp.Ordering.{Ordering}
use Rattle.res_base.specs.Known.{Known}
use Rattle.res_base.specs.Names.{module_cmp, text_cmp}
use Rattle.res_base.specs.declared.coord.Coord.{Coord}
use Rattle.res_base.specs.declared.coord.Module.{Module}
use Rattle.pom_build.specs.declared.build.Build.{Build}
use Rattle.pom_build.specs.declared.build.Build.TheVariants as builds
use Rattle.reconcile_rules.specs.declared.request.Asker.{Asker}
use Rattle.reconcile_rules.specs.declared.request.Asker.TheVariants.{Root, Project}
use Rattle.resolution.specs.declared.ask.Ask.{Ask}
use Rattle.resolution.specs.declared.choices.Choice.{Choice}
use Rattle.resolution.specs.declared.choices.Choice.TheVariants as choices
use Rattle.resolution.specs.declared.choices.ChoiceRow.{ChoiceRow}
use Rattle.resolution.specs.declared.settled.Edge.{Edge}
use Rattle.resolution.specs.declared.settled.Node.{Node}
use Rattle.resolution.specs.declared.settled.Settled.{Settled as Outcome}
use Rattle.resolution.specs.declared.verdict.ClashRow.{ClashRow}
use Rattle.resolution.specs.declared.verdict.FaultRow.{FaultRow}
use Rattle.resolution.specs.declared.verdict.ProjectFault.{ProjectFault}
use Rattle.resolution.specs.declared.verdict.ProjectFault.TheVariants.{NotFound, Refused}
use Rattle.resolution.specs.declared.verdict.Verdict.{Verdict}
use Rattle.resolution.specs.declared.verdict.Verdict.TheVariants.{Settled, Clashes, Failed}
use Rattle.round_core.specs.Edges.{target_of}
use Rattle.round_core.specs.Reaching.{reached_of}
use Rattle.round_core.specs.Requests.{Asked, asked_by, requests_in}
use Rattle.round_core.specs.Steering.{Versions, steer, text_of}
use Rattle.round_core.specs.Tables.{number_in}
use Rattle.round_core.specs.declared.edges.RowEdge.{RowEdge}
use Rattle.round_core.specs.declared.projects.ChosenProject.{ChosenProject}
use Rattle.round_core.specs.declared.reach.Reached.{Reached}

-- ---- clashes, with all that is asked of their modules

abbrev pub clash_in : Asked → Module → Choice → List ClashRow
clash_in asked m (choices.Version version) = []
clash_in asked m (choices.Clash clash) = record { «module» = m; clash = clash; requests = requests_in asked m } ∷ []

abbrev pub clash_at : Asked → ChoiceRow → List ClashRow
clash_at asked row = clash_in asked row.«module» row.choice

abbrev pub clashes_in : Asked → List ChoiceRow → List ClashRow
clashes_in asked chosen = flat_map (clash_at asked) chosen

-- ---- projects that are not there

-- by module, then by the bytes of the version
abbrev pub coord_cmp : Coord → Coord → Ordering
coord_cmp a b = ordering_then (module_cmp a.«module» b.«module») (text_cmp a.version b.version)

abbrev pub Faults : Type 0
Faults = List (Coord × ProjectFault)

abbrev pub with_fault : Faults → Coord → Build → Faults
with_fault faults c (builds.Built project) = faults
with_fault faults c (builds.Needs keys) = faults
with_fault faults c (builds.NotFound why) = insert_entry coord_cmp faults c (NotFound why)
with_fault faults c (builds.Refused fault) = insert_entry coord_cmp faults c (Refused fault)

abbrev pub with_project : Faults → ChosenProject → Faults
with_project faults project = with_fault faults project.coord project.build

abbrev pub with_chosen : Faults → Option ChosenProject → Faults
with_chosen faults None = faults
with_chosen faults (Some project) = with_project faults project

-- of what is chosen and of the BOMs, each once
abbrev pub faults_in : Reached → Faults
faults_in reached = fold with_chosen (fold with_project [] reached.boms) reached.projects

abbrev pub fault_row : Coord × ProjectFault → FaultRow
fault_row fault = record { coord = fault.0; fault = fault.1 }

-- ---- nodes and edges

abbrev pub node_of : Build → List Node
node_of (builds.Built project) =
    record { coord = project.coord; repo = project.repo; packaging = project.packaging; moved = project.moved } ∷ []
node_of (builds.Needs keys) = []
node_of (builds.NotFound why) = []
node_of (builds.Refused fault) = []

abbrev pub node_in : Option ChosenProject → List Node
node_in None = []
node_in (Some project) = node_of project.build

abbrev pub nodes_in : Reached → List Node
nodes_in reached = flat_map node_in reached.projects

-- each chosen module is a node, in module order
abbrev pub place_in : Reached → Module → ℕ
place_in reached m = unwrap_or (number_in reached.table m) 0

abbrev pub source_in : Reached → Asker → Option ℕ
source_in reached (Root place) = None
source_in reached (Project c) = Some (place_in reached c.«module»)

abbrev pub edge_in : List Coord → Versions → Reached → RowEdge → Edge
edge_in roots versions reached e =
    record {
      source = source_in reached e.source;
      target = place_in reached (target_of e);
      asked = text_of roots versions e;
      kind = e.row.kind;
      classifier = e.row.classifier;
    }

abbrev pub edges_in : List Coord → Versions → Reached → List Edge
edges_in roots versions reached = map (edge_in roots versions reached) reached.last

abbrev pub settled_in : List Coord → ℕ → Reached → Outcome
settled_in roots round reached =
    record { round = round; nodes = nodes_in reached; edges = edges_in roots (steer roots reached) reached }

-- ---- the first of these that there is

abbrev pub unless_failed : List FaultRow → Outcome → Verdict
unless_failed [] settled = Settled settled
unless_failed (fault ∷ more) settled = Failed (fault ∷ more)

abbrev pub unless_clashes : List ClashRow → Verdict → Verdict
unless_clashes [] otherwise = otherwise
unless_clashes (clash ∷ more) otherwise = Clashes (clash ∷ more)

-- clashes, then projects that are not there, then what is settled
abbrev pub verdict_in : List Coord → ℕ → List ChoiceRow → Reached → Verdict
verdict_in roots round chosen reached =
    unless_clashes (clashes_in (asked_by roots (steer roots reached) reached.last) chosen)
    (unless_failed (map fault_row (faults_in reached)) (settled_in roots round reached))

abbrev pub verdict_of : Known → Ask → ℕ → List ChoiceRow → Verdict
verdict_of known ask round chosen = verdict_in ask.roots round chosen (reached_of known ask chosen)
