use Rattle.reconcile_rules.proofs.Listing.{choice_stays}
use Rattle.reconcile_rules.proofs.laws.choices_stay.Goals as goal

pub returns : goal.returns
returns c = choice_stays
