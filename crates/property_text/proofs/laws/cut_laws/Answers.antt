use Rattle.property_text.proofs.LawLemmas.{written-segments}
use Rattle.property_text.proofs.laws.cut_laws.Goals as goal

pub returns : goal.returns
returns c = written-segments
