use Rattle.std.proofs.Common.{refl}
use Rattle.digest_check.specs.Digests.{digests_of}
use Rattle.file_answers.proofs.Judging.{digests_judge}
use Rattle.file_answers.proofs.demand.Demand.judge.Goals as goal

pub returns-in-AnyBytes-clause-answer : goal.returns-in-AnyBytes-clause-answer
returns-in-AnyBytes-clause-answer c = λ held url list asks.
    let bytes = c.args.bytes in
    rw c.in-AnyBytes.is at (digests_judge held url bytes list c.args.self.now (digests_of bytes) asks refl)
