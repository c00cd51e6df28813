use Rattle.case_table.proofs.Numbers.{absent, named, placed, told}
use Rattle.case_table.proofs.laws.names_numbered.Goals as goal

pub returns-clause-placed : goal.returns-clause-placed
returns-clause-placed c = placed

pub returns-clause-named : goal.returns-clause-named
returns-clause-named c = named

pub returns-clause-told : goal.returns-clause-told
returns-clause-told c = told

pub returns-clause-absent : goal.returns-clause-absent
returns-clause-absent c = absent
