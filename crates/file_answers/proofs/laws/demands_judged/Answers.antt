use Rattle.file_answers.proofs.Judging.{judged_is_checked, judged_is_answer}
use Rattle.file_answers.proofs.laws.demands_judged.Goals as goal

pub returns-clause-checked : goal.returns-clause-checked
returns-clause-checked c = judged_is_checked

pub returns-clause-answer : goal.returns-clause-answer
returns-clause-answer c = judged_is_answer
