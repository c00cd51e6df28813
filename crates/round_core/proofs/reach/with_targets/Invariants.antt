use Rattle.std.proofs.Common.{◌≡◌, drop}
use Rattle.round_core.specs.Reaching.{with_targets}
use Rattle.round_core.proofs.reach.with_targets.Given as goal

abbrev pub invariant-loop-edge : goal.invariant-loop-edge
invariant-loop-edge l = with_targets l.made (drop l.edge-index l.edges) ≡ with_targets l.fn.table l.edges
