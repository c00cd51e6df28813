use Rattle.arrival_core.specs.Resolving.{resolver_of}
use Rattle.job_session.proofs.Sessions.{may_say}
use Rattle.job_session.proofs.laws.ready_to_say.Goals as goal

pub returns : goal.returns
returns c =
    may_say (λ s ask h. c.claim_answers.ensures.says s (resolver_of ask) h) c.least_keys.ensures.among
    c.needed_keys.ensures.listed
