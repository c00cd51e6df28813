use Rattle.std.proofs.Common.{◌≡◌, drop}
use Rattle.std.specs.Prelude.{fold}
use Rattle.std.specs.Option.{option_copied}
use Rattle.reconcile_rules.specs.Greatest.{greater_of, greatest, versions_within}
use Rattle.reconcile_rules.proofs.greatest.greatest_within.Given as goal

abbrev pub invariant-loop-request : goal.invariant-loop-request
invariant-loop-request l =
    fold greater_of (option_copied l.best) (versions_within l.common (drop l.request-index l.asked)) ≡ greatest
    (versions_within l.common l.asked)
