use Rattle.claim_rules.proofs.LeastLemmas.{least_among, lowest, no_keys}
use Rattle.claim_rules.proofs.history_laws.least_keys.Goals as goal

pub returns-clause-among : goal.returns-clause-among
returns-clause-among c = least_among

pub returns-clause-lowest : goal.returns-clause-lowest
returns-clause-lowest c = lowest

pub returns-clause-none : goal.returns-clause-none
returns-clause-none c = no_keys
