-- Tables under coordinates.
use Rattle.std.specs.BTreeMap.{BTreeMap, get}
use Rattle.std.specs.Prelude.{Option}
use Rattle.std.specs.declared.cmp.Ordering.{Ordering}
use Rattle.std.specs.Ordering.{ordering_then}
use Rattle.res_base.specs.Names.{module_cmp, text_cmp}
use Rattle.res_base.specs.declared.coord.Coord.{Coord}

-- by module, then by version
abbrev pub coord_cmp : Coord → Coord → Ordering
coord_cmp a b = ordering_then (module_cmp a.«module» b.«module») (text_cmp a.version b.version)

abbrev pub value_at : {X : Type 0} → BTreeMap Coord X → Coord → Option X
value_at table c = get coord_cmp table c
