use Rattle.claim_rules.proofs.Asked.{claims_bound, many_needed}
use Rattle.claim_rules.proofs.BaseLaws.{key_laws}
use Rattle.claim_rules.proofs.ClaimCounts.{claims_each, claims_few}
use Rattle.claim_rules.proofs.history_laws.claims_counted.Goals as goal

pub returns-clause-each : goal.returns-clause-each
returns-clause-each g c s r h key legal stops =
    claims_each c.known_grows.ensures.more c.equality_decided.ensures.keys s r key h legal stops

pub returns-clause-few : goal.returns-clause-few
returns-clause-few g c s r h key legal stops =
    claims_few c.known_grows.ensures.more c.equality_decided.ensures.keys s r key h legal stops

pub returns-clause-bound : goal.returns-clause-bound
returns-clause-bound g c s r lawful whole most h legal more each =
    claims_bound c.known_grows.ensures.more (key_laws c.equality_decided.ensures.keys c.keys_counted.ensures.pigeons
    c.keys_counted.ensures.kept c.keys_counted.ensures.once) s r lawful whole most h legal more each

pub returns-clause-many : goal.returns-clause-many
returns-clause-many g c s r lawful whole h legal stops more retries hints all =
    many_needed c.known_grows.ensures.more (key_laws c.equality_decided.ensures.keys c.keys_counted.ensures.pigeons
    c.keys_counted.ensures.kept c.keys_counted.ensures.once) s r lawful whole h legal stops more retries hints all
