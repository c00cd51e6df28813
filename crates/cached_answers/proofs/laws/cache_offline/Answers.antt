use Rattle.cached_answers.proofs.Apart.{asks_nobody, said_offline}
use Rattle.cached_answers.specs.Caches.{found_at}
use Rattle.pool_rules.specs.Plans.{is_changing}
use Rattle.cached_answers.proofs.laws.cache_offline.Goals as goal

pub returns-clause-unasked : goal.returns-clause-unasked
returns-clause-unasked c plan i key off asks =
    asks_nobody plan.mode off (is_changing key) (found_at plan key i) plan.checks plan.moment plan.ttl asks

pub returns-clause-moments : goal.returns-clause-moments
returns-clause-moments c plan later i key off = said_offline plan later i key off
