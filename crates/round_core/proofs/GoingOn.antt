-- Projects that last, and rounds that go on with them.
use Rattle.std.proofs.Common.{◌≡◌, ◌<◌, ◌≤◌, ◌-◌, ℕ, zero, suc, Bool, true, false, Option, None, Some, List, [], ◌∷◌, length, map, refl, sym, ◌∙◌, ap, subst, arith}
use Rattle.std.specs.Prelude.{All}
use Rattle.pom_build.specs.Effectives.{effective_of}
use Rattle.pom_build.specs.Outcomes.{is_waiting}
use Rattle.res_base.specs.Known.{Grows, Known}
use Rattle.res_base.specs.declared.coord.Coord.{Coord}
use Rattle.res_base.specs.declared.key.FileKey.{FileKey}
use Rattle.resolution.specs.declared.ask.Ask.{Ask}
use Rattle.resolution.specs.declared.choices.ChoiceRow.{ChoiceRow}
use Rattle.resolution.specs.declared.choices.Choices.{Choices}
use Rattle.resolution.specs.declared.progress.Progress.{Progress}
use Rattle.resolution.specs.declared.progress.Progress.TheVariants.{Over, Waiting}
use Rattle.round_core.specs.Earlier.{AreLasting, AreRight, IsLasting, IsRight, lasting, lasting_if}
use Rattle.round_core.specs.Endings.{IsEnding, Waited, settles, stops, waits}
use Rattle.round_core.specs.Needs.{waits_in}
use Rattle.round_core.specs.Projects.{project_at}
use Rattle.round_core.specs.Rounds.{rounds_of}
use Rattle.round_core.specs.declared.projects.ChosenProject.{ChosenProject}

module _ (known : Known) (repos : ℕ) where
  one_right : (project : Option ChosenProject) → IsLasting known repos project → IsRight known repos project
  one_right None is = tt
  one_right (Some project) is = is.0

  pub right_of : (projects : List (Option ChosenProject)) → AreLasting known repos projects → AreRight known repos projects
  right_of projects all i d h = one_right _ (all i d h)

  one_lasts : (project : Option ChosenProject) → IsRight known repos project → IsLasting known repos (lasting project)
  one_lasts None right = tt
  one_lasts (Some project) right = by (is_waiting project.build) refl
    where
      by : (b : Bool) → is_waiting project.build ≡ b → IsLasting known repos (lasting_if b (Some project))
      by true e = tt
      by false e = (right, e)

  pub all_last : (projects : List (Option ChosenProject)) → AreRight known repos projects → AreLasting known repos (map lasting projects)
  all_last [] right i d h = absurd (omega (arith, h))
  all_last (project ∷ projects) right zero d h = one_lasts project (right 0 d (omega arith))
  all_last (project ∷ projects) right (suc i) d h =
      all_last projects (λ j e k. right (suc j) e (omega (arith, k))) i d (omega (arith, h))

module _ (before after : Known) (repos : ℕ)
    (same : (c : Coord) → is_waiting (effective_of before repos c) ≡ false → effective_of after repos c ≡ effective_of before repos c) where
  one_grows : (project : Option ChosenProject) → IsLasting before repos project → IsLasting after repos project
  one_grows None is = tt
  one_grows (Some project) is =
      let at : project ≡ project_at before repos project.coord = is.0 in
      let done : is_waiting (effective_of before repos project.coord) ≡ false =
      sym (ap (λ (p : ChosenProject). is_waiting p.build) at) ∙ is.1 in
      let stays : effective_of after repos project.coord ≡ effective_of before repos project.coord = same project.coord done in
      (at ∙ ap (λ b. record { coord = project.coord; build = b }) (sym stays), is.1)

  pub all_grow : (projects : List (Option ChosenProject)) → AreLasting before repos projects → AreLasting after repos projects
  all_grow projects all i d h = one_grows _ (all i d h)

-- rounds that wait have done the rounds before
pub has_waited : (known : Known) (ask : Ask) (progress : Progress) → IsEnding known ask progress → (round : ℕ) (choices : Choices)
    → (needs : List FileKey) → progress ≡ Waiting round choices needs → Waited known ask round choices.rows
has_waited known ask _ (waits {done} {chosen} {keys} below did needs) round choices wants is =
    let first : done ≡ round = cc in
    let second : chosen ≡ choices.rows = cc in
    subst (λ n. Waited known ask n choices.rows) first
    (subst (λ rows. Waited known ask done rows) second (record { did = did; few = omega (arith, below) }))
has_waited known ask _ (settles below did next same) round choices wants is = absurd cc
has_waited known ask _ (stops did) round choices wants is = absurd cc
