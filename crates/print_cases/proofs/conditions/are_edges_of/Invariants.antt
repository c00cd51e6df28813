use Rattle.std.specs.List.{AllWithin}
use Rattle.resolution.specs.Settlements.{IsEdgeOf}
use Rattle.resolution.specs.declared.settled.Edge.{Edge}
use Rattle.print_cases.proofs.conditions.are_edges_of.Given as goal

abbrev pub invariant-loop-edge : goal.invariant-loop-edge
invariant-loop-edge l = AllWithin (λ (e : Edge). IsEdgeOf l.count e) l.edges 0 l.edge-index
