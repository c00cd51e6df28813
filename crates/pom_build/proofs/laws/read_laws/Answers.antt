use Rattle.pom_build.proofs.BuildReads.{effective-same}
use Rattle.pom_build.proofs.KeysSame.{effective_keys-same}
use Rattle.pom_build.proofs.laws.read_laws.Goals as goal

pub returns : goal.returns
returns c = record { answer = effective-same; keys = effective_keys-same }
