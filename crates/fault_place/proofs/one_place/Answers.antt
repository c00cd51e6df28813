use Rattle.fault_place.proofs.Places.{one_place, goes_on_below, none_above}
use Rattle.fault_place.proofs.one_place.Goals as goal

pub returns-clause-one : goal.returns-clause-one
returns-clause-one g c = one_place g.G.Grammar.Accepts

pub returns-clause-goes_on : goal.returns-clause-goes_on
returns-clause-goes_on g c = goes_on_below g.G.Grammar.Accepts

pub returns-clause-longest : goal.returns-clause-longest
returns-clause-longest g c = none_above g.G.Grammar.Accepts
