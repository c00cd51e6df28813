use Rattle.std.proofs.Common.{◌≡◌, ◌++◌, take}
use Rattle.exclusion_sets.specs.Exclusions.{uncovered}
use Rattle.exclusion_sets.proofs.excl_set.ExclSet.put_by_pairs.Given as goal

abbrev pub invariant-loop-rule : goal.invariant-loop-rule
invariant-loop-rule l = l.rules ≡ l.initial.rules ++ uncovered l.self (take l.rule-index l.more)
