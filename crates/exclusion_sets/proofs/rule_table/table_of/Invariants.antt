use Rattle.std.proofs.Common.{take}
use Rattle.exclusion_sets.specs.Lookups.{HasRules}
use Rattle.exclusion_sets.proofs.rule_table.table_of.Given as goal

abbrev pub invariant-loop-rule : goal.invariant-loop-rule
invariant-loop-rule l = HasRules (take l.rule-index l.rules) l.table
