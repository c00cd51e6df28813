use Rattle.std.proofs.Common.{◌≡◌, drop, fold}
use Rattle.round_core.specs.Reaching.{names_of, with_targets}
use Rattle.round_core.proofs.reach.names_of.Given as goal

abbrev pub invariant-loop-list : goal.invariant-loop-list
invariant-loop-list l = fold with_targets l.made (drop l.list-index l.edges) ≡ names_of l.rows l.roots l.edges
