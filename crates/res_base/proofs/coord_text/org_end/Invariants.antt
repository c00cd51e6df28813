use Rattle.std.proofs.Common.{take}
use Rattle.fault_place.specs.Reader.{At}
use Rattle.res_base.specs.CoordReader.{coord_reader, in_org}
use Rattle.res_base.proofs.coord_text.org_end.Given as goal

abbrev pub invariant-loop-i : goal.invariant-loop-i
invariant-loop-i l = At coord_reader (in_org (take l.i l.text) l.in_part) (take l.i l.text)
