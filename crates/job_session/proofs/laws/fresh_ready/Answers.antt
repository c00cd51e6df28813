use Rattle.job_session.proofs.Sessions.{ready_for}
use Rattle.job_session.proofs.laws.fresh_ready.Goals as goal

pub returns : goal.returns
returns c = ready_for
