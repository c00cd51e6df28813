use Rattle.std.proofs.Common.{◌≡◌, drop}
use Rattle.std.specs.Prelude.{fold}
use Rattle.std.specs.Option.{option_copied}
use Rattle.reconcile_rules.specs.Relaxed.{later_of, last_of}
use Rattle.reconcile_rules.proofs.relaxed.last.Given as goal

abbrev pub invariant-loop-request : goal.invariant-loop-request
invariant-loop-request l = fold later_of (option_copied l.last) (drop l.request-index l.asked) ≡ last_of l.asked
