use Rattle.std.proofs.Common.{subst}
use Rattle.claim_agenda.proofs.Moving.{after_claim_agenda, after_return_agenda, agenda_answer, agenda_some, claimed_key, moved_agenda, planned_agenda}
use Rattle.claim_agenda.proofs.Queues.{LeastLaws}
use Rattle.claim_rules.specs.Claims.{IsAnswer}
use Rattle.claim_rules.specs.Histories.{known_in}
use Rattle.claim_agenda.proofs.laws.agenda_laws.Goals as goal

pub returns-clause-answer : goal.returns-clause-answer
returns-clause-answer g c s r h a is =
    let laws : LeastLaws = record {
      among = c.least_keys.ensures.among;
      lowest = c.least_keys.ensures.lowest;
      none = c.least_keys.ensures.none;
    } in
    agenda_answer c.equality_decided.ensures.keys laws s r h a is

pub returns-clause-some : goal.returns-clause-some
returns-clause-some g c s r h a lawful is going =
    agenda_some s r h a (c.session_needs.ensures.some r lawful (known_in h)) is going

pub returns-clause-unknown : goal.returns-clause-unknown
returns-clause-unknown g c s r h a lawful is key m =
    c.session_needs.ensures.unknown r lawful (known_in h) key (is.needed.there key m)

pub returns-clause-moved : goal.returns-clause-moved
returns-clause-moved g c s r h a b is kept need hint = moved_agenda s r h a is b kept need hint

pub returns-clause-claimed : goal.returns-clause-claimed
returns-clause-claimed g c s r h a seat key is = after_claim_agenda s r h a seat key is

pub returns-clause-returned : goal.returns-clause-returned
returns-clause-returned g c s r h a b seat key is kept need hint =
    after_return_agenda s r h a seat key is b kept need hint

pub returns-clause-planned : goal.returns-clause-planned
returns-clause-planned g c s r h a plan = planned_agenda s r h a plan

pub returns-clause-claimable : goal.returns-clause-claimable
returns-clause-claimable g c s r h key is =
    claimed_key s r h key (subst (IsAnswer s r h) is (c.claim_answers.ensures.says s r h))
