use Rattle.claim_rules.proofs.BaseLaws.{key_laws}
use Rattle.claim_rules.proofs.ReadCounts.{arrived_once, known_needed, reads_are_needs}
use Rattle.claim_rules.proofs.history_laws.reads_counted.Goals as goal

pub returns-clause-once : goal.returns-clause-once
returns-clause-once g c s r h key legal = arrived_once c.equality_decided.ensures.keys s r key h legal

pub returns-clause-needed : goal.returns-clause-needed
returns-clause-needed g c s r lawful plain whole h key legal more known =
    known_needed c.known_grows.ensures.more (key_laws c.equality_decided.ensures.keys c.keys_counted.ensures.pigeons
    c.keys_counted.ensures.kept c.keys_counted.ensures.once) s r lawful plain whole key h legal more known

pub returns-clause-counted : goal.returns-clause-counted
returns-clause-counted g c s r lawful plain whole h legal more over =
    reads_are_needs c.known_grows.ensures.more (key_laws c.equality_decided.ensures.keys c.keys_counted.ensures.pigeons
    c.keys_counted.ensures.kept c.keys_counted.ensures.once) s r lawful plain whole h legal more over
