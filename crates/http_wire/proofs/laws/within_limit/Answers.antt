use Rattle.http_wire.proofs.FullLimit.{full_law}
use Rattle.http_wire.proofs.LawFacts.{few_law}
use Rattle.http_wire.proofs.laws.within_limit.Goals as goal

pub returns : goal.returns
returns c = record { within = few_law; full = full_law }
