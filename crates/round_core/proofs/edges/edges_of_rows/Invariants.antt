use Rattle.std.proofs.Common.{◌≡◌, filter, map, take}
use Rattle.round_core.specs.Edges.{edge_from, is_edge}
use Rattle.round_core.proofs.edges.edges_of_rows.Given as goal

abbrev pub invariant-loop-row : goal.invariant-loop-row
invariant-loop-row l =
    l.made ≡ map (edge_from l.coord) (filter (is_edge l.configuration l.coord) (take l.row-index l.rows))
