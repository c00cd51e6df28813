use Rattle.pool_rules.proofs.Counting.{later_on}
use Rattle.pool_rules.proofs.laws.counts_later.Goals as goal

pub returns-clause-steps : goal.returns-clause-steps
returns-clause-steps c plan first second third one two = later_on plan first second third one two
