use Rattle.pool_rules.proofs.Stopping.{answered, turns}
use Rattle.pool_rules.proofs.laws.work_ends.Goals as goal

pub returns-clause-answered : goal.returns-clause-answered
returns-clause-answered g c r old new before now finish going legal ends
    = answered r old new before now finish going legal ends

pub returns-clause-turns : goal.returns-clause-turns
returns-clause-turns g c r first second third one two three finish going worked =
    turns r first second third one two three finish going worked
