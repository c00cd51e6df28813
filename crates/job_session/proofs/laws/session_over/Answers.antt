use Rattle.std.proofs.Common.{subst}
use Rattle.arrival_core.specs.Resolving.{resolver_of}
use Rattle.claim_rules.specs.Claims.{IsAnswer}
use Rattle.claim_rules.specs.Histories.{known_in}
use Rattle.job_session.proofs.Sessions.{is_over_so}
use Rattle.job_session.proofs.laws.session_over.Goals as goal

pub returns : goal.returns
returns c = λ s ask h is.
    is_over_so ask (known_in h)
    (subst (λ answer. IsAnswer s (resolver_of ask) h answer) is (c.claim_answers.ensures.says s (resolver_of ask) h))
