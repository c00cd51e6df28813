-- The projects of chosen coordinates.
use Rattle.std.specs.Prelude.{ℕ, Option, None, Some, List, map}
use Rattle.std.specs.Option.{option_map}
use Rattle.res_base.specs.Known.{Known}
use Rattle.res_base.specs.declared.coord.Coord.{Coord}
use Rattle.pom_build.specs.Effectives.{effective_of, steps_of}
use Rattle.resolution.specs.declared.choices.ChoiceRow.{ChoiceRow}
use Rattle.round_core.specs.Choices.{coord_in}
use Rattle.round_core.specs.declared.projects.ChosenProject.{ChosenProject}

abbrev pub project_at : Known → ℕ → Coord → ChosenProject
project_at known repos c = record { coord = c; build = effective_of known repos c }

-- a clash has no project
abbrev pub project_in : Known → ℕ → ChoiceRow → Option ChosenProject
project_in known repos row = option_map (project_at known repos) (coord_in row)

abbrev pub projects_in : Known → ℕ → List ChoiceRow → List (Option ChosenProject)
projects_in known repos chosen = map (project_in known repos) chosen

abbrev pub projects_of : Known → ℕ → List Coord → List ChosenProject
projects_of known repos coords = map (project_at known repos) coords

-- the steps that it took
abbrev pub steps_in : Option ChosenProject → ℕ
steps_in None = 0
steps_in (Some project) = steps_of project.build
