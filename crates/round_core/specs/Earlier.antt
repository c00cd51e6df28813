-- What an earlier round built.
use Rattle.std.specs.Prelude.{◌≡◌, ⊤, ℕ, Bool, true, false, ◌&&◌, Option, None, Some, List, All}
use Rattle.pom_build.specs.Outcomes.{is_waiting}
use Rattle.res_base.specs.Known.{Known}
use Rattle.res_base.specs.Names.{module_eq, text_eq}
use Rattle.res_base.specs.declared.coord.Module.{Module}
use Rattle.round_core.specs.Needs.{waits_in}
use Rattle.round_core.specs.Projects.{project_at}
use Rattle.round_core.specs.declared.projects.ChosenProject.{ChosenProject}

-- a project is what it is at its coordinates
abbrev pub IsRight : Known → ℕ → Option ChosenProject → Type 0
IsRight known repos None = ⊤
IsRight known repos (Some project) = project ≡ project_at known repos project.coord

abbrev pub AreRight : Known → ℕ → List (Option ChosenProject) → Type 0
AreRight known repos projects = All (IsRight known repos) projects

-- it is that of this module and version
abbrev pub is_chosen : Option ChosenProject → Module → List ℕ → Bool
is_chosen None m version = false
is_chosen (Some project) m version = module_eq project.coord.«module» m && text_eq project.coord.version version

-- A project that waits for nothing, and is what it is at its coordinates: more knowledge changes it no more.
abbrev pub IsLasting : Known → ℕ → Option ChosenProject → Type 0
IsLasting known repos None = ⊤
IsLasting known repos (Some project) = (project ≡ project_at known repos project.coord) × (is_waiting project.build ≡ false)

abbrev pub AreLasting : Known → ℕ → List (Option ChosenProject) → Type 0
AreLasting known repos projects = All (IsLasting known repos) projects

-- without the project, where it waits
abbrev pub lasting_if : Bool → Option ChosenProject → Option ChosenProject
lasting_if true project = None
lasting_if false project = project

abbrev pub lasting : Option ChosenProject → Option ChosenProject
lasting project = lasting_if (waits_in project) project
