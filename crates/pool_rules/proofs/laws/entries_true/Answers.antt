use Rattle.pool_rules.proofs.Telling.{arrival_true, others_true}
use Rattle.pool_rules.proofs.laws.entries_true.Goals as goal

pub returns-clause-arrival : goal.returns-clause-arrival
returns-clause-arrival c all h seat key reading is =
    arrival_true (λ a b. (c.equality_decided.ensures.keys a b).0) all h seat key reading is

pub returns-clause-others : goal.returns-clause-others
returns-clause-others c all h seat what none = others_true all h seat what none
