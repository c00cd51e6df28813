use Rattle.reconcile_rules.proofs.OriginLemmas.{origin}
use Rattle.reconcile_rules.proofs.laws.unforced_versions.Goals as goal

pub returns : goal.returns
returns c = origin
