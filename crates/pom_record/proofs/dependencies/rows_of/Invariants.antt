use Rattle.std.proofs.Common.{◌≡◌, ◌++◌, map, drop}
use Rattle.std.specs.Prelude.{codes}
use Rattle.pom_record.specs.Fields.{named}
use Rattle.pom_record.specs.Record.{dependency}
use Rattle.pom_record.proofs.dependencies.rows_of.Given as goal

abbrev pub invariant-loop-child : goal.invariant-loop-child
invariant-loop-child l =
    l.made ++ map dependency (named (codes "dependency") (drop l.child-index l.children))
    ≡ map dependency (named (codes "dependency") l.children)
