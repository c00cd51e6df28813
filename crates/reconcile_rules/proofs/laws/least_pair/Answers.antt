use Rattle.reconcile_rules.proofs.LeastPair.{least_pair}
use Rattle.reconcile_rules.proofs.laws.least_pair.Goals as goal

pub returns : goal.returns
returns c = least_pair
