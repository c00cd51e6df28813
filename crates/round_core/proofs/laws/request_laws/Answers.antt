use Rattle.std.proofs.Common.{◌≡◌, Bool, true, false, List, refl, subst, ◌∙◌, ap, sym}
use Rattle.round_core.proofs.Walked as walked
use Rattle.round_core.proofs.laws.request_laws.Goals as goal

pub returns-clause-requests : goal.returns-clause-requests
returns-clause-requests c = walked.walk_requests

pub returns-clause-ends : goal.returns-clause-ends
returns-clause-ends c = walked.walk_ends

pub returns-clause-rises : goal.returns-clause-rises
returns-clause-rises c = walked.walk_rises
