use Rattle.exclusion_sets.proofs.SetLaws.{join_left, join_right, join_least, join_either, join_widens}
use Rattle.exclusion_sets.proofs.laws.join_laws.Goals as goal

pub returns-clause-left : goal.returns-clause-left
returns-clause-left c = join_left

pub returns-clause-right : goal.returns-clause-right
returns-clause-right c = join_right

pub returns-clause-least : goal.returns-clause-least
returns-clause-least c = join_least

pub returns-clause-either : goal.returns-clause-either
returns-clause-either c = join_either

pub returns-clause-widens : goal.returns-clause-widens
returns-clause-widens c = join_widens
