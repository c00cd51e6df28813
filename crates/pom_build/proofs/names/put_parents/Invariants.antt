use Rattle.std.proofs.Common.{◌≡◌, take}
use Rattle.pom_build.specs.Puts.{put_projects}
use Rattle.pom_build.proofs.names.put_parents.Given as goal

abbrev pub invariant-loop-project : goal.invariant-loop-project
invariant-loop-project l = l.made ≡ put_projects l.fn.values (take l.project-index l.parents)
