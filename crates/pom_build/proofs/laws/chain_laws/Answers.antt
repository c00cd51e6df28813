use Rattle.pom_build.proofs.Chains.{built_kept, kept_gives}
use Rattle.pom_build.proofs.laws.chain_laws.Goals as goal

pub returns : goal.returns
returns c = record { kept = built_kept; given = kept_gives }
