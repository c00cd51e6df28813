-- What is reached from the roots: the projects of a round, and the last edges of live paths.
use Rattle.std.specs.Prelude.{◌≡◌, ℕ, ◌+◌, true, false, Bool, Option, None, Some, List, [], ◌∷◌, ◌++◌, All, fold, map, slice_get, unwrap_or, if◌then◌else◌}
use Rattle.res_base.specs.Known.{Known}
use Rattle.res_base.specs.declared.coord.Coord.{Coord}
use Rattle.res_base.specs.declared.coord.Module.{Module}
use Rattle.res_base.specs.declared.pom.Exclusion.{Exclusion}
use Rattle.exclusion_sets.specs.declared.excl_set.ExclSet.{ExclSet}
use Rattle.live_walk.specs.Graphs.{Graph}
use Rattle.live_walk.specs.Numbers.{Step, followed_by, row_at, step_graph}
use Rattle.resolution.specs.declared.ask.Ask.{Ask}
use Rattle.resolution.specs.declared.choices.ChoiceRow.{ChoiceRow}
use Rattle.round_core.specs.Choices.{modules_of}
use Rattle.round_core.specs.Edges.{exclusions_of, last_ones, root_edges, target_of}
use Rattle.round_core.specs.Projects.{projects_in, projects_of}
use Rattle.round_core.specs.Tables.{has, named, number_in}
use Rattle.round_core.specs.declared.edges.RowEdge.{RowEdge}
use Rattle.round_core.specs.declared.projects.ChosenProject.{ChosenProject}
use Rattle.round_core.specs.declared.reach.Reached.{Reached}

-- all modules with numbers: what is chosen, the roots, and the ends of edges
abbrev pub targets_of : List RowEdge → List Module
targets_of edges = map target_of edges

abbrev pub with_targets : List Module → List RowEdge → List Module
with_targets names edges = named names (targets_of edges)

abbrev pub roots_of : List Coord → List Module
roots_of roots = map (λ (c : Coord). c.«module») roots

abbrev pub names_of : List ChoiceRow → List Coord → List (List RowEdge) → List Module
names_of chosen roots edges = fold with_targets (named (named [] (modules_of chosen)) (roots_of roots)) edges

-- an edge as a walk sees it
abbrev pub step_of : RowEdge → Step
step_of e = record { target = target_of e; excludes = exclusions_of e }

-- the ends of the edges have numbers
abbrev pub HaveNumbers : List Module → List RowEdge → Type 0
HaveNumbers names edges = All (λ (e : RowEdge). has names (target_of e) ≡ true) edges

-- the graph that the walk sees
abbrev pub seen_graph : List Module → List Exclusion → List Coord → List (List RowEdge) → Graph Module Step ExclSet
seen_graph names excludes roots edges =
    step_graph (map (λ (c : Coord). record { target = c.«module»; excludes = record { rules = excludes } }) roots)
    (λ m. map step_of (row_at names edges m))

abbrev pub flag_at : List Bool → ℕ → Bool
flag_at flags place = unwrap_or (slice_get flags place) false

abbrev pub flags_at : List (List Bool) → ℕ → List Bool
flags_at flags place = unwrap_or (slice_get flags place) []

-- the edges whose flags are set
abbrev pub kept_if : Bool → RowEdge → List RowEdge
kept_if flag e = if flag then e ∷ [] else []

abbrev pub kept_from : List Bool → ℕ → List RowEdge → List RowEdge
kept_from flags place [] = []
kept_from flags place (e ∷ edges) = kept_if (flag_at flags place) e ++ kept_from flags (place + 1) edges

abbrev pub kept : List RowEdge → List Bool → List RowEdge
kept edges flags = kept_from flags 0 edges

abbrev pub all_kept_from : List (List Bool) → ℕ → List (List RowEdge) → List RowEdge
all_kept_from rows place [] = []
all_kept_from rows place (edges ∷ more) = kept edges (flags_at rows place) ++ all_kept_from rows (place + 1) more

abbrev pub all_kept : List (List RowEdge) → List (List Bool) → List RowEdge
all_kept edges rows = all_kept_from rows 0 edges

-- the last edges, as the walk sees the graph
abbrev pub seen_last : List Module → List Exclusion → List Coord → List (List RowEdge) → List RowEdge
seen_last names excludes roots edges =
    root_edges excludes 0 roots ++ all_kept edges (followed_by (seen_graph names excludes roots edges) names)

-- all that is reached at these choices
abbrev pub reached_of : Known → Ask → List ChoiceRow → Reached
reached_of known ask chosen =
    record {
      table = modules_of chosen;
      projects = projects_in known ask.repos chosen;
      boms = projects_of known ask.repos ask.boms;
      last = last_ones known ask chosen;
    }

abbrev pub by_number : List (Option ChosenProject) → Option ℕ → Option ChosenProject
by_number projects None = None
by_number projects (Some number) = unwrap_or (slice_get projects number) None

-- the project that is chosen for a module
abbrev pub project_for : Reached → Module → Option ChosenProject
project_for reached m = by_number reached.projects (number_in reached.table m)
