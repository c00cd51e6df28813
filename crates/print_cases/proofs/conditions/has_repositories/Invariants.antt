use Rattle.std.proofs.Common.{◌<◌}
use Rattle.std.specs.List.{AllWithin}
use Rattle.resolution.specs.declared.settled.Node.{Node}
use Rattle.print_cases.proofs.conditions.has_repositories.Given as goal

abbrev pub invariant-loop-node : goal.invariant-loop-node
invariant-loop-node l = AllWithin (λ (node : Node). node.repo < l.count) l.settled.nodes 0 l.node-index
