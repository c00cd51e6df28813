use Rattle.std.proofs.Common.{rules}
use Rattle.fetch_pool.proofs.ends.take_in.Goals.{in-Ok, in-Err-NoMemory}
use Rattle.fetch_pool.proofs.ends.take_in.Goals as goal

pub returns-clause-same : goal.returns-clause-same
returns-clause-same g c = elim c.match-absorb.branch [ in-Ok w ↦ search rules | in-Err-NoMemory w ↦ search rules ]
