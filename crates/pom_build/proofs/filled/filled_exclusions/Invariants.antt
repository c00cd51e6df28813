use Rattle.std.proofs.Common.{◌≡◌, map, take}
use Rattle.pom_build.specs.Filling.{filled_exclusion}
use Rattle.pom_build.specs.Names.{fill_in}
use Rattle.pom_build.proofs.filled.filled_exclusions.Given as goal

abbrev pub invariant-loop-rule : goal.invariant-loop-rule
invariant-loop-rule l = l.made ≡ map (filled_exclusion (fill_in l.named)) (take l.rule-index l.rule-items)
