use Rattle.std.proofs.Common.{◌≡◌, map, take}
use Rattle.round_core.specs.Verdicts.{edge_in}
use Rattle.round_core.proofs.verdict.edges_in.Given as goal

abbrev pub invariant-loop-edge : goal.invariant-loop-edge
invariant-loop-edge l = l.made ≡ map (edge_in l.roots l.steer l.reached) (take l.edge-index l.reached.last)
