use Rattle.std.proofs.Common.{◌≡◌, ◌∷◌, map, take}
use Rattle.pom_build.proofs.filled.managed_lists.Given as goal

abbrev pub invariant-loop-project : goal.invariant-loop-project
invariant-loop-project l = map (λ list. list.now) l.lists.items ≡ l.line.own.pom.managed ∷ map (λ project. project.pom.managed) (take l.project-index l.project-items)
