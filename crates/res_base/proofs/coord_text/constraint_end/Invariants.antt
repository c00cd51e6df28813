use Rattle.std.proofs.Common.{take, ◌+◌}
use Rattle.std.specs.Prelude.{slice_range}
use Rattle.fault_place.specs.Reader.{At}
use Rattle.res_base.specs.CoordReader.{coord_reader, in_constraint}
use Rattle.res_base.proofs.coord_text.constraint_end.Given as goal

abbrev pub invariant-loop-k : goal.invariant-loop-k
invariant-loop-k l =
    At coord_reader (in_constraint (take l.first l.text) (slice_range l.text (l.first + 1) l.second)
    (slice_range l.text (l.second + 1) l.k)) (take l.k l.text)
