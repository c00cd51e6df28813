use Rattle.claim_rules.proofs.Resolved.{reads_known, verdict_stays, reads_stay, session_stays}
use Rattle.claim_rules.proofs.session_laws.over_stays.Goals as goal

pub returns-clause-known : goal.returns-clause-known
returns-clause-known g c = reads_known

pub returns-clause-verdict : goal.returns-clause-verdict
returns-clause-verdict g c = verdict_stays

pub returns-clause-reads : goal.returns-clause-reads
returns-clause-reads g c = reads_stay

pub returns-clause-session : goal.returns-clause-session
returns-clause-session g c = session_stays
