use Rattle.std.proofs.Common.{◌≡◌}
use Rattle.std.specs.Vec.Iter.{into_iter_items}
use Rattle.meta_record.specs.Versions.{children_of}
use Rattle.meta_record.proofs.versions.children_of.Given as goal

abbrev pub invariant-loop-child : goal.invariant-loop-child
invariant-loop-child l = children_of l.name (into_iter_items l.child-iterator) ≡ children_of l.name l.fn.children
