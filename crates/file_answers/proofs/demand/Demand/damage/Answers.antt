use Rattle.file_answers.proofs.Judging.{digests_judge}
use Rattle.file_answers.proofs.demand.Demand.damage.Goals as goal

pub returns-in-AnyBytes-clause-answer : goal.returns-in-AnyBytes-clause-answer
returns-in-AnyBytes-clause-answer c = λ held url bytes list asks of.
    rw c.in-AnyBytes.is at (digests_judge held url bytes list c.args.self.now c.args.digests.now asks of)

pub returns-in-DigestOf-clause-answer : goal.returns-in-DigestOf-clause-answer
returns-in-DigestOf-clause-answer c = λ held url bytes list asks of.
    rw c.damage.ensures
    (rw c.in-DigestOf.is at (digests_judge held url bytes list c.args.self.now c.args.digests.now asks of))

pub returns-in-Undecided-clause-answer : goal.returns-in-Undecided-clause-answer
returns-in-Undecided-clause-answer c = λ held url bytes list asks of.
    rw c.in-Undecided.is at (digests_judge held url bytes list c.args.self.now c.args.digests.now asks of)
