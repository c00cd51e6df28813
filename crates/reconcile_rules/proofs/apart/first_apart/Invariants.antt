use Rattle.std.proofs.Common.{◌≡◌, drop}
use Rattle.reconcile_rules.specs.Apart.{first_apart}
use Rattle.reconcile_rules.proofs.apart.first_apart.Given as goal

abbrev pub invariant-loop-other : goal.invariant-loop-other
invariant-loop-other l = first_apart l.interval (drop l.other-index l.asked) ≡ first_apart l.interval l.asked
