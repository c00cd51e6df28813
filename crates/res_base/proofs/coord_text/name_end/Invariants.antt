use Rattle.std.proofs.Common.{take, ◌+◌}
use Rattle.std.specs.Prelude.{slice_range}
use Rattle.fault_place.specs.Reader.{At}
use Rattle.res_base.specs.CoordReader.{coord_reader, in_name}
use Rattle.res_base.proofs.coord_text.name_end.Given as goal

abbrev pub invariant-loop-j : goal.invariant-loop-j
invariant-loop-j l = At coord_reader (in_name (take l.first l.text) (slice_range l.text (l.first + 1) l.j))
    (take l.j l.text)
