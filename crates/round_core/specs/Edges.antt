-- The edges of a module at its chosen version, and the graph that they make.
use Rattle.std.specs.Prelude.{ℕ, ◌+◌, Bool, not, ◌&&◌, Option, None, Some, List, [], ◌∷◌, codes, filter, map}
use Rattle.std.specs.Option.{option_map}
use Rattle.res_base.specs.Known.{Known}
use Rattle.res_base.specs.Names.{module_eq}
use Rattle.res_base.specs.declared.coord.Coord.{Coord}
use Rattle.res_base.specs.declared.coord.Module.{Module}
use Rattle.res_base.specs.declared.pom.DepRecord.{DepRecord}
use Rattle.res_base.specs.declared.pom.Exclusion.{Exclusion}
use Rattle.exclusion_sets.specs.declared.excl_set.ExclSet.{ExclSet}
use Rattle.live_walk.specs.Graphs.{Graph}
use Rattle.live_walk.specs.Numbers.{edge_graph}
use Rattle.live_walk.specs.Paths.{last_edges}
use Rattle.pom_build.specs.declared.build.Build.{Build}
use Rattle.pom_build.specs.declared.build.Build.TheVariants.{Built, Needs, NotFound, Refused}
use Rattle.reconcile_rules.specs.declared.request.Asker.{Asker}
use Rattle.reconcile_rules.specs.declared.request.Asker.TheVariants.{Root, Project}
use Rattle.resolution.specs.declared.ask.Ask.{Ask}
use Rattle.resolution.specs.declared.choices.ChoiceRow.{ChoiceRow}
use Rattle.round_core.specs.Choices.{chosen_coord, modules_of}
use Rattle.round_core.specs.Projects.{project_at}
use Rattle.round_core.specs.declared.edges.RowEdge.{RowEdge}
use Rattle.round_core.specs.declared.projects.ChosenProject.{ChosenProject}
use Rattle.scope_rules.specs.Kept.{is_kept}
use Rattle.scope_rules.specs.declared.scopes.Configuration.{Configuration}

-- the configuration keeps the dependency, and it is none of a module on itself
abbrev pub is_edge : Configuration → Coord → DepRecord → Bool
is_edge configuration c row = is_kept configuration row && not (module_eq row.«module» c.«module»)

abbrev pub edge_from : Coord → DepRecord → RowEdge
edge_from c row = record { source = Project c; row = row }

-- a project that is not built has no edges
abbrev pub edges_built : Configuration → Coord → Build → List RowEdge
edges_built configuration c (Built project) = map (edge_from c) (filter (is_edge configuration c) project.deps)
edges_built configuration c (Needs keys) = []
edges_built configuration c (NotFound why) = []
edges_built configuration c (Refused fault) = []

abbrev pub edges_in : Configuration → Option ChosenProject → List RowEdge
edges_in configuration None = []
edges_in configuration (Some project) = edges_built configuration project.coord project.build

abbrev pub all_edges : Configuration → List (Option ChosenProject) → List (List RowEdge)
all_edges configuration projects = map (edges_in configuration) projects

-- the edges of a module at its chosen version
abbrev pub edges : Known → Ask → List ChoiceRow → Module → List RowEdge
edges known ask chosen m = edges_in ask.configuration (option_map (project_at known ask.repos) (chosen_coord chosen m))

-- a root asks for a jar, and excludes what the words exclude
abbrev pub root_row : List Exclusion → Coord → DepRecord
root_row excludes c =
    record {
      «module» = c.«module»;
      version = c.version;
      kind = codes "jar";
      classifier = [];
      scope = codes "compile";
      optional = [];
      exclusions = excludes;
    }

abbrev pub root_edges : List Exclusion → ℕ → List Coord → List RowEdge
root_edges excludes place [] = []
root_edges excludes place (c ∷ roots) =
    record { source = Root place; row = root_row excludes c } ∷ root_edges excludes (place + 1) roots

abbrev pub target_of : RowEdge → Module
target_of e = e.row.«module»

abbrev pub exclusions_of : RowEdge → ExclSet
exclusions_of e = record { rules = e.row.exclusions }

-- roots, and the edges of what is chosen
abbrev pub graph : Known → Ask → List ChoiceRow → Graph Module RowEdge ExclSet
graph known ask chosen =
    edge_graph target_of exclusions_of (root_edges ask.excludes 0 ask.roots) (edges known ask chosen)

-- The last edges of live paths: the roots in the order of the words, then by source module, then by the place of the
-- row.
abbrev pub last_ones : Known → Ask → List ChoiceRow → List RowEdge
last_ones known ask chosen = last_edges (graph known ask chosen) (modules_of chosen)
