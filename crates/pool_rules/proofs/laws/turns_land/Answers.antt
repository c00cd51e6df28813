use Rattle.pool_rules.proofs.Stopping.{turn_stops, waiting_stops}
use Rattle.pool_rules.proofs.laws.turns_land.Goals as goal

pub returns-clause-stops : goal.returns-clause-stops
returns-clause-stops c h seat key what ends = turn_stops h seat key what ends

pub returns-clause-waits : goal.returns-clause-waits
returns-clause-waits c h = waiting_stops h
