use Rattle.std.proofs.Common.{◌≡◌, drop}
use Rattle.round_core.specs.Needs.{with_keys}
use Rattle.round_core.proofs.keys.KeySet.with_keys.Given as goal

abbrev pub invariant-loop-key : goal.invariant-loop-key
invariant-loop-key l = with_keys l.made (drop l.key-index l.more) ≡ with_keys l.fn.self l.more
