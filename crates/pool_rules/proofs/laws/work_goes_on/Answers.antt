use Rattle.pool_rules.proofs.Working.{going_on, works_on}
use Rattle.pool_rules.proofs.laws.work_goes_on.Goals as goal

pub returns-clause-works : goal.returns-clause-works
returns-clause-works c first second third one two three a b = works_on first second third one two three a b

pub returns-clause-going : goal.returns-clause-going
returns-clause-going c first second third one two three a b = going_on first second third one two three a b
