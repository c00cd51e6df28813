use Rattle.std.proofs.Common.{◌≡◌, drop}
use Rattle.std.specs.Prelude.{fold}
use Rattle.std.specs.Option.{option_copied}
use Rattle.reconcile_rules.specs.Greatest.{greater_of, greatest, versions_of}
use Rattle.reconcile_rules.proofs.greatest.greatest.Given as goal

abbrev pub invariant-loop-request : goal.invariant-loop-request
invariant-loop-request l =
    fold greater_of (option_copied l.best) (versions_of (drop l.request-index l.asked)) ≡ greatest (versions_of l.asked)
