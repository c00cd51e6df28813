use Rattle.arrival_core.specs.Resolving.{resolver_of}
use Rattle.arrival_core.proofs.laws.claims_bounded.Goals as goal

pub returns-clause-few : goal.returns-clause-few
returns-clause-few c s ask h key legal stops = c.claims_counted.ensures.few s (resolver_of ask) h key legal stops

pub returns-clause-many : goal.returns-clause-many
returns-clause-many c s ask whole h legal stops grows retries room spent =
    c.claims_counted.ensures.many s (resolver_of ask) (c.rounds_lawful.ensures ask) whole h legal stops grows retries room spent
