use Rattle.http_wire.proofs.LawFacts.{grows_law, starts_law}
use Rattle.http_wire.proofs.laws.content_grows.Goals as goal

pub returns : goal.returns
returns c = record { starts = starts_law; grows = grows_law }
