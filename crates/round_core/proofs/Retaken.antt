-- Projects that an earlier round built are those of this one.
use Rattle.std.proofs.Common.{◌≡◌, ◌<◌, ℕ, zero, suc, true, false, Option, None, Some, List, [], ◌∷◌, length, refl, sym, ◌∙◌, ap, subst, arith, true≢false}
use Rattle.std.specs.Prelude.{All, IfSome}
use Rattle.live_walk.proofs.Members.{and_both}
use Rattle.live_walk.proofs.Modules.{module_same, text_same}
use Rattle.res_base.specs.Known.{Known}
use Rattle.res_base.specs.Names.{module_eq, text_eq}
use Rattle.res_base.specs.declared.coord.Coord.{Coord}
use Rattle.res_base.specs.declared.coord.Module.{Module}
use Rattle.resolution.specs.declared.choices.Choice.{Choice}
use Rattle.resolution.specs.declared.choices.Choice.TheVariants.{Version, Clash}
use Rattle.resolution.specs.declared.choices.ChoiceRow.{ChoiceRow}
use Rattle.round_core.specs.Earlier.{AreRight, IsRight, is_chosen}
use Rattle.round_core.specs.Projects.{project_at, project_in, projects_in}
use Rattle.round_core.specs.declared.projects.ChosenProject.{ChosenProject}

module _ (known : Known) (repos : ℕ) where
  -- a project that is that of a version is what it is there
  pub chosen_is : (found : Option ChosenProject) (m : Module) (version : List ℕ) → IsRight known repos found
      → is_chosen found m version ≡ true
      → IfSome found (λ project. project ≡ project_at known repos (record { «module» = m; version = version }))
  chosen_is None m version right h = tt
  chosen_is (Some project) m version right h =
      let both : (module_eq project.coord.«module» m ≡ true) × (text_eq project.coord.version version ≡ true) =
      and_both (module_eq project.coord.«module» m) (text_eq project.coord.version version) h in
      let same_module : project.coord.«module» ≡ m = module_same project.coord.«module» m both.0 in
      let same_version : project.coord.version ≡ version = text_same project.coord.version version both.1 in
      let same : project.coord ≡ record { «module» = m; version = version } =
      ap (λ (z : Module). record { «module» = z; version = project.coord.version }) same_module
      ∙ ap (λ (z : List ℕ). record { «module» = m; version = z }) same_version in
      right ∙ ap (λ (c : Coord). project_at known repos c) same

  right_row : (m : Module) (choice : Choice)
      → IsRight known repos (project_in known repos (record { «module» = m; choice = choice }))
  right_row m (Version version) = refl
  right_row m (Clash clash) = tt

  pub right_in : (rows : List ChoiceRow) → AreRight known repos (projects_in known repos rows)
  right_in [] i d h = absurd (omega (arith, h))
  right_in (row ∷ rows) zero d h = right_row row.«module» row.choice
  right_in (row ∷ rows) (suc i) d h = right_in rows i d (omega (arith, h))

  pub right_none : AreRight known repos []
  right_none i d h = absurd (omega (arith, h))
