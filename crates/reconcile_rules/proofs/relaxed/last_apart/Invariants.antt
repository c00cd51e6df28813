use Rattle.std.proofs.Common.{◌≡◌, drop}
use Rattle.std.specs.Prelude.{fold}
use Rattle.std.specs.Option.{option_copied}
use Rattle.reconcile_rules.specs.Relaxed.{later_of, last_of, apart_from}
use Rattle.reconcile_rules.proofs.relaxed.last_apart.Given as goal

abbrev pub invariant-loop-request : goal.invariant-loop-request
invariant-loop-request l =
    fold later_of (option_copied l.last) (apart_from l.interval (drop l.request-index l.asked)) ≡ last_of
    (apart_from l.interval l.asked)
