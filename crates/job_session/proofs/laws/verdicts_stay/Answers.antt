use Rattle.job_session.proofs.KnownFiles.{files_same}
use Rattle.job_session.proofs.laws.verdicts_stay.Goals as goal

pub returns-clause-files : goal.returns-clause-files
returns-clause-files c = λ job known whole verdict more all.
    files_same job.ask.files verdict known whole job.addresses more all
