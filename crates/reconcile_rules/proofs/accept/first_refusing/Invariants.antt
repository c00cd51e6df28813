use Rattle.std.proofs.Common.{◌≡◌, drop}
use Rattle.reconcile_rules.specs.Choose.{first_refusing}
use Rattle.reconcile_rules.specs.Accept.{accepts_by}
use Rattle.reconcile_rules.proofs.accept.first_refusing.Given as goal

abbrev pub invariant-loop-request : goal.invariant-loop-request
invariant-loop-request l =
    first_refusing (accepts_by l.by) l.chosen (drop l.request-index l.plains) ≡ first_refusing
    (accepts_by l.by) l.chosen l.plains
