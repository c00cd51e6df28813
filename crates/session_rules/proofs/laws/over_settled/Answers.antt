use Rattle.std.proofs.Common.{subst, refl}
use Rattle.claim_rules.specs.Claims.{IsAnswer}
use Rattle.claim_rules.specs.Histories.{known_in}
use Rattle.session_rules.proofs.Settling.{only_one, read_more, verdict_of}
use Rattle.session_rules.proofs.laws.over_settled.Goals as goal

pub returns-clause-verdict : goal.returns-clause-verdict
returns-clause-verdict g c r old new before now served =
    verdict_of r (known_in new.history) (r.rounds (known_in new.history)) refl
    (subst (IsAnswer new.settings r new.history) served.worked.ends.0
    (c.claim_answers.ensures.says new.settings r new.history))

pub returns-clause-more : goal.returns-clause-more
returns-clause-more g c r lawful some all verdict readings grows s =
    record {
      rounds = c.over_stays.ensures.verdict r lawful some all verdict grows s.rounds;
      over = c.over_stays.ensures.session r lawful some all grows s.over;
      read = read_more r some all verdict readings grows s;
    }

pub returns-clause-one : goal.returns-clause-one
returns-clause-one g c r known first second these those a b = only_one r known first second these those a b

pub returns-clause-needed : goal.returns-clause-needed
returns-clause-needed g c r lawful some all verdict readings grows s key m =
    c.session_needs.ensures.all_known r lawful some all grows s.over key m
