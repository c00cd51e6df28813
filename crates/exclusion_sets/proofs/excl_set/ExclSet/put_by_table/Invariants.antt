use Rattle.std.proofs.Common.{◌≡◌, ◌++◌, take}
use Rattle.exclusion_sets.specs.Lookups.{unfound}
use Rattle.exclusion_sets.proofs.excl_set.ExclSet.put_by_table.Given as goal

abbrev pub invariant-loop-rule : goal.invariant-loop-rule
invariant-loop-rule l = l.rules ≡ l.initial.rules ++ unfound l.table (take l.rule-index l.more)
