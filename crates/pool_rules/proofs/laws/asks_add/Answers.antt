use Rattle.std.proofs.Common.{sym, subst, ◌∙◌, ◌+◌, ◌*◌, ◌≤◌, ap}
use Rattle.claim_rules.specs.Counts.{claims_that}
use Rattle.pool_rules.proofs.Counting.{asks_more, claims_turn}
use Rattle.pool_rules.specs.Plans.{files_in}
use Rattle.pool_rules.proofs.laws.asks_add.Goals as goal

pub returns-clause-turn : goal.returns-clause-turn
returns-clause-turn c may old new before now seat key what adds asks =
    subst (λ n. now.asked + claims_that may old.history * files_in old.plan ≤ before.asked + n * files_in old.plan)
    (sym (ap (claims_that may) adds.history ∙ claims_turn may old.history seat key what adds.ends.end))
    (asks_more (may key) now.asked before.asked (claims_that may old.history) (files_in old.plan) asks)
