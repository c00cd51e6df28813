use Rattle.verdict_print.proofs.projects.put_fault.Goals as goal

pub returns-in-LineAbsent : goal.returns-in-LineAbsent
returns-in-LineAbsent c = rw c.in-LineAbsent.is c.put_absent.ensures
