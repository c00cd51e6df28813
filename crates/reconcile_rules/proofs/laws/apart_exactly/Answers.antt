use Rattle.reconcile_rules.proofs.Pairs.{apart_exactly}
use Rattle.reconcile_rules.proofs.laws.apart_exactly.Goals as goal

pub returns : goal.returns
returns c = apart_exactly c.common.ensures.empty
