use Rattle.artifact_files.specs.Files.{artifact_keys}
use Rattle.job_session.proofs.KnownFiles.{all_known}
use Rattle.job_session.proofs.laws.files_known.Goals as goal

pub returns : goal.returns
returns c = λ known settled all. all_known known (artifact_keys settled) all
