use Rattle.std.proofs.Common.{subst, ap, ◌∙◌}
use Rattle.claim_rules.specs.Claims.{IsAnswer}
use Rattle.claim_rules.specs.Least.{least}
use Rattle.session_rules.proofs.Sticking.{lacks_each, no_breaks}
use Rattle.session_rules.proofs.laws.offline_stuck.Goals as goal

pub returns-clause-lacking : goal.returns-clause-lacking
returns-clause-lacking g c r old new before now key why served off =
    let stuck = subst (IsAnswer new.settings r new.history) served.worked.ends.0
    (c.claim_answers.ensures.says new.settings r new.history) in
    let each = lacks_each r old new before now _ served key stuck off in
    (no_breaks r old new before now _ served key stuck off, λ one m. each one m)

pub returns-clause-least : goal.returns-clause-least
returns-clause-least g c r lawful some all key grows none l =
    record {
      going = c.same_needs.ensures.going r lawful some all grows none l.going;
      first = ap least (c.same_needs.ensures.needs r lawful some all grows none) ∙ l.first;
    }
