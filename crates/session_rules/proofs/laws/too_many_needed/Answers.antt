use Rattle.std.proofs.Common.{subst, sym, arith, ◌≤◌}
use Rattle.claim_rules.specs.Claims.{IsAnswer}
use Rattle.claim_rules.specs.Counts.{claims}
use Rattle.session_rules.proofs.Bounds.{stops_by}
use Rattle.session_rules.specs.Outcomes.{HasTopLimits}
use Rattle.session_rules.proofs.laws.too_many_needed.Goals as goal

pub returns : goal.returns
returns g c r lawful old new before now all served top grows =
    let many = subst (IsAnswer new.settings r new.history) served.worked.ends.0
    (c.claim_answers.ensures.says new.settings r new.history) in
    let limits : HasTopLimits new.settings = subst HasTopLimits (sym served.worked.works.job.settings) top in
    let spent : 4194304 ≤ claims new.history = omega (arith, limits.claims, many.spent) in
    c.claims_counted.ensures.many new.settings r lawful all new.history served.worked.legal
    (stops_by r old new before now _ served) grows
    limits.retries limits.hints spent
