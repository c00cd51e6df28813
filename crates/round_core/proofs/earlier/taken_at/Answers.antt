use Rattle.std.proofs.Common.{◌≡◌, ◌<◌, ℕ, true, Option, None, List, get_or, length, set, sym, ◌∙◌, ap, subst, arith}
use Rattle.std.specs.Prelude.{IfSome}
use Rattle.std.proofs.lemmas.List.{get_or_default}
use Rattle.std.proofs.lemmas.List.Elements.{All-set}
use Rattle.res_base.specs.Known.{known_of}
use Rattle.res_base.specs.declared.coord.Module.{Module}
use Rattle.round_core.specs.Earlier.{AreRight, IsRight, is_chosen}
use Rattle.round_core.specs.Projects.{project_at}
use Rattle.round_core.specs.declared.projects.ChosenProject.{ChosenProject}
use Rattle.round_core.proofs.Retaken.{chosen_is}
use Rattle.round_core.proofs.earlier.taken_at.Goals as goal

pub returns-clause-right : goal.returns-clause-right
returns-clause-right c =
    let known = known_of c.args.known.now.pairs in
    let repos = c.args.known.now.repos in
    let none : c.replace.new.dest ≡ None = c.replace.ensures.after in
    subst (λ (z : Option ChosenProject). AreRight known repos (set c.args.projects.now c.args.place z)) (sym none)
    (All-set (IsRight known repos) c.args.projects.now c.args.place None tt c.requires)

pub returns-clause-value : goal.returns-clause-value
returns-clause-value c =
    let known = known_of c.args.known.now.pairs in
    let repos = c.args.known.now.repos in
    let m : Module = c.args.«module».now in
    let version : List ℕ = c.args.version.now in
    let first : Option ChosenProject = c.index-projects-place.result in
    let second : Option ChosenProject = c.index-projects-place-2.result in
    let within : c.args.place < length c.args.projects.now = omega arith in
    let read : Option ChosenProject = get_or c.args.projects.now c.args.place first in
    let again : Option ChosenProject = get_or c.args.projects.now c.args.place second in
    let same : read ≡ again = get_or_default c.args.projects.now c.args.place first second within in
    let told : is_chosen read m version ≡ true =
    ap (λ (o : Option ChosenProject). is_chosen o m version) (sym c.as_ref.ensures.value)
    ∙ sym c.is_chosen.ensures ∙ c.if-not-is_chosen.false in
    let chosen : is_chosen again m version ≡ true =
    ap (λ (o : Option ChosenProject). is_chosen o m version) (sym same) ∙ told in
    subst (λ (o : Option ChosenProject).
    IfSome o (λ found. found ≡ project_at known repos (record { «module» = m; version = version })))
    (sym c.replace.ensures.value)
    (chosen_is known repos again m version (c.requires c.args.place second within) chosen)
