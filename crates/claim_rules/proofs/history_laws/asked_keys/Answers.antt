use Rattle.claim_rules.proofs.Asked.{claim_touches, asked_bound}
use Rattle.claim_rules.proofs.BaseLaws.{key_laws}
use Rattle.claim_rules.proofs.history_laws.asked_keys.Goals as goal

pub returns-clause-touched : goal.returns-clause-touched
returns-clause-touched g c s r lawful whole h key more answer =
    claim_touches c.known_grows.ensures.more (key_laws c.equality_decided.ensures.keys c.keys_counted.ensures.pigeons
    c.keys_counted.ensures.kept c.keys_counted.ensures.once) s r lawful whole h key more answer

pub returns-clause-few : goal.returns-clause-few
returns-clause-few g c s r lawful whole test most h due legal more each all =
    asked_bound c.known_grows.ensures.more (key_laws c.equality_decided.ensures.keys c.keys_counted.ensures.pigeons
    c.keys_counted.ensures.kept c.keys_counted.ensures.once) s r lawful whole test most h due legal more each all
