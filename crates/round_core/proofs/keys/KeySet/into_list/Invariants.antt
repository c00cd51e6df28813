use Rattle.std.proofs.Common.{◌≡◌, ◌++◌}
use Rattle.round_core.proofs.keys.KeySet.into_list.Given as goal

abbrev pub invariant-loop-key : goal.invariant-loop-key
invariant-loop-key l = l.made ++ l.key-iterator ≡ l.fn.self
