use Rattle.std.proofs.Common.{inl, refl}
use Rattle.file_answers.proofs.Failing.{handed_on}
use Rattle.file_answers.proofs.answers.ask_file.Goals as goal

pub returns-in_err-bytes-clause-failed : goal.returns-in_err-bytes-clause-failed
returns-in_err-bytes-clause-failed g c =
    handed_on _ _ _ _ _ _ _ _ (inl refl) c.in_err-bytes.ensures.failed refl c.from_residual.ensures.1

pub returns-in-Absent-clause-failed : goal.returns-in-Absent-clause-failed
returns-in-Absent-clause-failed g c = (_, inl refl, c.in_ok-bytes.ensures.failed)

pub returns-in-TooLarge-clause-failed : goal.returns-in-TooLarge-clause-failed
returns-in-TooLarge-clause-failed g c = (_, inl refl, c.in_ok-bytes.ensures.failed)
