use Rattle.std.proofs.Common.{◌≡◌, ℕ, List, map, fold, drop}
use Rattle.pom_record.specs.Record.{has_name, property, properties, put_property}
use Rattle.pom_record.proofs.PropertyLemmas.{knows}
use Rattle.pom_record.proofs.properties.properties.Given as goal

abbrev pub invariant-loop-child : goal.invariant-loop-child
invariant-loop-child l =
    (fold put_property l.made (map property (drop l.child-index l.children)) ≡ properties l.children)
    × ((name : List ℕ) → knows l.names name ≡ has_name name l.made)
