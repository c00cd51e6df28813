use Rattle.reconcile_rules.proofs.GreatestLemmas.{greatest_is, greatest_none}
use Rattle.reconcile_rules.proofs.laws.greatest_version.Goals as goal

pub returns-clause-some : goal.returns-clause-some
returns-clause-some c = greatest_is

pub returns-clause-none : goal.returns-clause-none
returns-clause-none c = greatest_none
