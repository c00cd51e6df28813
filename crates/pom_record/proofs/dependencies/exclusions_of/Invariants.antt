use Rattle.std.proofs.Common.{◌≡◌, ◌++◌, map, drop}
use Rattle.std.specs.Prelude.{codes}
use Rattle.pom_record.specs.Fields.{named}
use Rattle.pom_record.specs.Record.{exclusion}
use Rattle.pom_record.proofs.dependencies.exclusions_of.Given as goal

abbrev pub invariant-loop-child : goal.invariant-loop-child
invariant-loop-child l =
    l.made ++ map exclusion (named (codes "exclusion") (drop l.child-index l.children))
    ≡ map exclusion (named (codes "exclusion") l.children)
