use Rattle.std.proofs.Common.{◌≡◌, drop}
use Rattle.reconcile_rules.specs.Choose.{first_above}
use Rattle.reconcile_rules.proofs.rules.first_above.Given as goal

abbrev pub invariant-loop-request : goal.invariant-loop-request
invariant-loop-request l = first_above l.common (drop l.request-index l.asked) ≡ first_above l.common l.asked
