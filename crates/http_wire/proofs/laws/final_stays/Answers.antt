use Rattle.http_wire.proofs.LawFacts.{final_law, closed_law}
use Rattle.http_wire.proofs.laws.final_stays.Goals as goal

pub returns : goal.returns
returns c = record { stays = final_law; closed = closed_law }
