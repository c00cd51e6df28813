use Rattle.std.proofs.Common.{◌≡◌, ◌≤◌, ◌+◌, List, [], ◌∷◌, ◌++◌, take, sym, ◌∙◌, ap, arith}
use Rattle.std.proofs.Math.Numerals.{add-one}
use Rattle.std.proofs.Math.Seq.{take-suc}
use Rattle.pom_build.specs.Effectives.{steps_of}
use Rattle.res_base.specs.Known.{known_of}
use Rattle.res_base.specs.declared.coord.Coord.{Coord}
use Rattle.round_core.specs.Projects.{project_at, projects_of}
use Rattle.round_core.specs.declared.projects.ChosenProject.{ChosenProject}
use Rattle.round_core.proofs.Made.{map_more}
use Rattle.round_core.proofs.projects.projects_of.Goals as goal

pub loop-coord-preserved : goal.loop-coord-preserved
loop-coord-preserved g c =
    let known = known_of c.args.known.now.pairs in
    let repos = c.args.known.now.repos in
    let given : List Coord = c.args.coords.now in
    let place = c.loop-coord.coord-index in
    let coord : Coord = c.coord-item.result in
    let next : take (place + 1) given ≡ take place given ++ coord ∷ [] =
    rw add-one (take-suc given place coord c.loop-coord-test.true
    ∙ ap (λ (one : Coord). take place given ++ one ∷ []) (sym c.coord-item.is)) in
    let begun : c.args.steps.now ≤ c.loop-coord.steps = c.loop-coord.invariant.steps in
    let taken : c.project_at.new.steps ≡ c.loop-coord.steps + steps_of c.in_ok-project_at.field-0.build =
    c.in_ok-project_at.ensures.steps in
    record {
      value =
          c.in_ok-push.ensures.ok
          ∙ ap (λ (made : List ChosenProject). made ++ c.in_ok-project_at.field-0 ∷ []) c.loop-coord.invariant.value
          ∙ ap (λ (one : ChosenProject). projects_of known repos (take place given)
          ++ one ∷ []) c.in_ok-project_at.ensures.value
          ∙ sym (ap (projects_of known repos) next ∙ map_more (project_at known repos) (take place given) coord);
      steps = omega (arith, begun, taken);
    }
