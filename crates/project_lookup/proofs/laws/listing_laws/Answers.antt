use Rattle.project_lookup.proofs.LookLaws.{listing_grows}
use Rattle.project_lookup.proofs.laws.listing_laws.Goals as goal

pub returns : goal.returns
returns c = λ before after m repo grows. listing_grows before after grows m repo
