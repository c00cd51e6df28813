use Rattle.std.proofs.Common.{◌≡◌, true}
use Rattle.std.specs.List.{AllWithin}
use Rattle.res_base.specs.Plain.{is_plain_coord}
use Rattle.resolution.specs.declared.settled.Node.{Node}
use Rattle.print_cases.proofs.conditions.are_plain.Given as goal

abbrev pub invariant-loop-node : goal.invariant-loop-node
invariant-loop-node l = AllWithin (λ (node : Node). is_plain_coord node.coord ≡ true) l.nodes 0 l.node-index
