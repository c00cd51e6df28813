use Rattle.interval_sets.proofs.Folds.{common_holds, common_below, common_above, stays_empty, two_apart, empty_by_two}
use Rattle.interval_sets.proofs.laws.common.Goals as goal

pub returns-clause-holds : goal.returns-clause-holds
returns-clause-holds g c = common_holds g.met.V.Ranked.total

pub returns-clause-below : goal.returns-clause-below
returns-clause-below g c = common_below g.met.V.Ranked.total

pub returns-clause-above : goal.returns-clause-above
returns-clause-above g c = common_above g.met.V.Ranked.total

pub returns-clause-empty : goal.returns-clause-empty
returns-clause-empty g c xs = (two_apart g.met.V.Ranked.total xs, empty_by_two g.met.V.Ranked.total xs)

pub returns-clause-stays_empty : goal.returns-clause-stays_empty
returns-clause-stays_empty g c = stays_empty g.met.V.Ranked.total
