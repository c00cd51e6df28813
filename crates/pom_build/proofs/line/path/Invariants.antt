use Rattle.std.proofs.Common.{◌≡◌, ◌∷◌, map, take}
use Rattle.pom_build.proofs.line.path.Given as goal

abbrev pub invariant-loop-project : goal.invariant-loop-project
invariant-loop-project l = l.path ≡ l.line.own.coord ∷ map (λ project. project.coord) (take l.project-index l.project-items)
