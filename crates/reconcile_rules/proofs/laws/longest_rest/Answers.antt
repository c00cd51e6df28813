use Rattle.reconcile_rules.proofs.KeptLemmas.{longest_rest}
use Rattle.reconcile_rules.proofs.laws.longest_rest.Goals as goal

pub returns : goal.returns
returns c = longest_rest c.one_side.ensures.ends_total c.common.ensures.empty
