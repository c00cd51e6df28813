use Rattle.std.proofs.Common.{◌≡◌, drop}
use Rattle.cache_policy.specs.Decisions.{checks_eq}
use Rattle.cache_policy.proofs.decisions.same_checks.Given as goal

abbrev pub invariant-loop-i : goal.invariant-loop-i
invariant-loop-i l = checks_eq l.checks l.others ≡ checks_eq (drop l.i l.checks) (drop l.i l.others)
