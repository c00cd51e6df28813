use Rattle.std.proofs.Common.{◌≡◌, ◌++◌}
use Rattle.std.specs.Vec.Iter.{into_iter_items}
use Rattle.meta_record.specs.Versions.{versions_among}
use Rattle.meta_record.proofs.versions.versions_among.Given as goal

abbrev pub invariant-loop-child : goal.invariant-loop-child
invariant-loop-child l = l.made ++ versions_among (into_iter_items l.child-iterator) ≡ versions_among l.fn.children
