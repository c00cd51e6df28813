use Rattle.arrival_core.specs.Resolving.{resolver_of}
use Rattle.claim_rules.specs.Sessions.{needs}
use Rattle.arrival_core.proofs.Listed.{hints_listed, needs_listed}
use Rattle.arrival_core.proofs.laws.keys_listed.Goals as goal

pub returns-clause-needs : goal.returns-clause-needs
returns-clause-needs c ask known =
    needs_listed known ask (λ one key. c.answer_laws.ensures.poms known ask.repos one key)
    (λ verdict is. c.settled_laws.ensures.repositories known ask verdict is) (λ key. c.wait_laws.ensures.read known ask key)

pub returns-clause-hints : goal.returns-clause-hints
returns-clause-hints c s ask known = hints_listed s (needs (resolver_of ask) known)
