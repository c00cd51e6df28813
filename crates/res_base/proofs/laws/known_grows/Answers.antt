use Rattle.res_base.proofs.KnownPairs.{more, steps}
use Rattle.res_base.proofs.laws.known_grows.Goals as goal

pub returns-clause-more : goal.returns-clause-more
returns-clause-more c = more

pub returns-clause-itself : goal.returns-clause-itself
returns-clause-itself c known key reading e = e

pub returns-clause-steps : goal.returns-clause-steps
returns-clause-steps c = steps
