use Rattle.project_lookup.proofs.LookLaws.{look_law, look_grows}
use Rattle.project_lookup.proofs.laws.look_laws.Goals as goal

pub returns-clause-plain : goal.returns-clause-plain
returns-clause-plain c = look_law

pub returns-clause-grows : goal.returns-clause-grows
returns-clause-grows c = λ before after repos coord grows. look_grows before after grows repos coord
