use Rattle.http_wire.proofs.PartFacts.{one_law}
use Rattle.http_wire.proofs.laws.one_outcome.Goals as goal

pub returns : goal.returns
returns c = one_law
