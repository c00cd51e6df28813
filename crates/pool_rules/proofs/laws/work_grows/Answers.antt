use Rattle.pool_rules.proofs.Going.{turn_works}
use Rattle.pool_rules.proofs.Working.{entry_works}
use Rattle.pool_rules.proofs.laws.work_grows.Goals as goal

pub returns-clause-entry : goal.returns-clause-entry
returns-clause-entry c old new before now seat what adds later cost =
    entry_works c.files_beside.ensures.added (λ a b.
    (c.equality_decided.ensures.keys a b).0) old new before now seat what adds later cost

pub returns-clause-turn : goal.returns-clause-turn
returns-clause-turn c old new before now seat key what adds later cost =
    turn_works c.files_beside.ensures.added (λ a b. (c.equality_decided.ensures.keys a b).0) c.counts_later.ensures.same
    old new before now seat key what adds later cost
