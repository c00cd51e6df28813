use Rattle.std.proofs.Common.{ℕ, ◌<◌, subst, sym}
use Rattle.arrival_core.specs.Resolving.{resolver_of}
use Rattle.claim_rules.specs.Histories.{known_in}
use Rattle.asked_paths.proofs.Asked.{claimed_path}
use Rattle.asked_paths.proofs.laws.claimed_keys.Goals as goal

pub returns-clause-listed : goal.returns-clause-listed
returns-clause-listed c s ask h key is same =
    subst (λ (n : ℕ). key.repo < n) (sym same) (c.paths_asked.ensures.claimed s ask h key same is).listed

pub returns-clause-path : goal.returns-clause-path
returns-clause-path c s ask h key is =
    claimed_path s ask h key (c.paths_asked.ensures.needs ask (known_in h))
    (c.claim_answers.ensures.says s (resolver_of ask) h) is
