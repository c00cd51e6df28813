use Rattle.exclusion_sets.proofs.SetLaws.{no_rules_left, no_rules_right}
use Rattle.exclusion_sets.proofs.laws.no_rules_laws.Goals as goal

pub returns-clause-left : goal.returns-clause-left
returns-clause-left c = no_rules_left

pub returns-clause-right : goal.returns-clause-right
returns-clause-right c = no_rules_right
