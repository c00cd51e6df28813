use Rattle.http_wire.proofs.LawFacts.{shown_law}
use Rattle.http_wire.proofs.laws.shown_is_seen.Goals as goal

pub returns : goal.returns
returns c = shown_law
