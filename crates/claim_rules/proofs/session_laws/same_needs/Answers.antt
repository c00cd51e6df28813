use Rattle.std.proofs.Common.{◌∙◌}
use Rattle.claim_rules.proofs.SameNeeds.{needs_stay, over_alike}
use Rattle.claim_rules.proofs.session_laws.same_needs.Goals as goal

pub returns-clause-needs : goal.returns-clause-needs
returns-clause-needs g c = needs_stay

pub returns-clause-going : goal.returns-clause-going
returns-clause-going g c r lawful before after more lacks going = over_alike r lawful before after more lacks ∙ going
