-- How many projects a round has built, at the least: those at ends of live paths that are built.
use Rattle.std.specs.Prelude.{ℕ, Bool, true, false, Option, None, Some, List, [], filter, length, map}
use Rattle.res_base.specs.Known.{Known}
use Rattle.res_base.specs.Names.{module_eq}
use Rattle.pom_build.specs.declared.build.Build.{Build}
use Rattle.pom_build.specs.declared.build.Build.TheVariants.{Built, Needs, NotFound, Refused}
use Rattle.resolution.specs.declared.ask.Ask.{Ask}
use Rattle.resolution.specs.declared.choices.ChoiceRow.{ChoiceRow}
use Rattle.round_core.specs.Edges.{target_of}
use Rattle.round_core.specs.Reaching.{project_for, reached_of}
use Rattle.round_core.specs.Tables.{named}
use Rattle.round_core.specs.declared.projects.ChosenProject.{ChosenProject}
use Rattle.round_core.specs.declared.reach.Reached.{Reached}

abbrev pub is_built : Build → Bool
is_built (Built project) = true
is_built (Needs keys) = false
is_built (NotFound why) = false
is_built (Refused fault) = false

abbrev pub is_built_in : Option ChosenProject → Bool
is_built_in None = false
is_built_in (Some project) = is_built project.build

abbrev pub built_in : Reached → ℕ
built_in reached = length (filter (λ m. is_built_in (project_for reached m)) (named [] (map target_of reached.last)))

-- the modules at ends of live paths whose project at the choices is built
abbrev pub built_count : Known → Ask → List ChoiceRow → ℕ
built_count known ask chosen = built_in (reached_of known ask chosen)
