use Rattle.http_wire.proofs.PartFacts.{read_law}
use Rattle.http_wire.proofs.laws.read_is_outcome.Goals as goal

pub returns : goal.returns
returns c = read_law
