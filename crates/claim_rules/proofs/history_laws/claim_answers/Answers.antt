use Rattle.std.proofs.Common.{subst}
use Rattle.claim_rules.specs.Claims.{IsAnswer}
use Rattle.claim_rules.proofs.AnswerLemmas.{says, only}
use Rattle.claim_rules.proofs.Flying.{none_now_flies}
use Rattle.claim_rules.proofs.history_laws.claim_answers.Goals as goal

pub returns-clause-says : goal.returns-clause-says
returns-clause-says g c = says

pub returns-clause-only : goal.returns-clause-only
returns-clause-only g c = only

pub returns-clause-flying : goal.returns-clause-flying
returns-clause-flying g c s r h lawful e =
    none_now_flies c.equality_decided.ensures.keys s r lawful h (subst (IsAnswer s r h) e (says s r h))
