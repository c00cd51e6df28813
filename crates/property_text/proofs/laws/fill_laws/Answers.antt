use Rattle.property_text.proofs.LawLemmas.{filled-stays, filled-short}
use Rattle.property_text.proofs.laws.fill_laws.Goals as goal

pub returns-clause-stays : goal.returns-clause-stays
returns-clause-stays c = filled-stays

pub returns-clause-short : goal.returns-clause-short
returns-clause-short c = filled-short
