use Rattle.std.proofs.Common.{subst}
use Rattle.arrival_core.specs.Resolving.{resolver_of}
use Rattle.claim_rules.specs.Claims.{IsAnswer}
use Rattle.fetch_pool.proofs.Flights.{was_landed}
use Rattle.fetch_pool.proofs.laws.claimed_lands.Goals as goal

pub returns : goal.returns
returns c s ask h key due =
    was_landed s (resolver_of ask) h key
    (subst (λ a. IsAnswer s (resolver_of ask) h a) due (c.claim_answers.ensures.says s (resolver_of ask) h))
