use Rattle.std.proofs.Common.{subst}
use Rattle.claim_rules.specs.Claims.{IsAnswer}
use Rattle.claim_rules.specs.Histories.{known_in}
use Rattle.claim_rules.specs.Sessions.{needs}
use Rattle.session_rules.proofs.Sticking.{failed_at}
use Rattle.session_rules.proofs.laws.stuck_broken.Goals as goal

pub returns-clause-failed : goal.returns-clause-failed
returns-clause-failed g c r old new before now key why served on =
    let stuck = subst (IsAnswer new.settings r new.history) served.worked.ends.0
    (c.claim_answers.ensures.says new.settings r new.history) in
    failed_at r old new before now _ served key stuck on (c.least_keys.ensures.among (needs r
    (known_in new.history)) key stuck.first)

pub returns-clause-need : goal.returns-clause-need
returns-clause-need g c r old new before now key why served =
    let stuck = subst (IsAnswer new.settings r new.history) served.worked.ends.0
    (c.claim_answers.ensures.says new.settings r new.history) in (
      record { going = stuck.going; first = stuck.first },
      c.least_keys.ensures.among (needs r
          (known_in new.history)) key stuck.first,
    )

pub returns-clause-needed : goal.returns-clause-needed
returns-clause-needed g c r lawful old new before now key why all served grows =
    let stuck = subst (IsAnswer new.settings r new.history) served.worked.ends.0
    (c.claim_answers.ensures.says new.settings r new.history) in
    c.session_needs.ensures.needed r lawful (known_in new.history) all grows key
    (c.least_keys.ensures.among (needs r (known_in new.history)) key stuck.first)
