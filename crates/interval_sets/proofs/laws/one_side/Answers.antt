use Rattle.interval_sets.proofs.Cuts.{ends_total}
use Rattle.interval_sets.proofs.laws.one_side.Goals as goal

pub returns-clause-ends_total : goal.returns-clause-ends_total
returns-clause-ends_total g c = ends_total g.met.V.Ranked.total
