use Rattle.exclusion_sets.proofs.Lookups.{covered_by_lookups}
use Rattle.exclusion_sets.proofs.laws.cover_laws.Goals as goal

pub returns : goal.returns
returns c = covered_by_lookups
