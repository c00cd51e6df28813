use Rattle.std.proofs.Common.{sym, ◌∙◌}
use Rattle.cache_policy.proofs.Offline.{only_offline}
use Rattle.cache_policy.proofs.decisions.decide.Goals as goal

pub returns-clause-offline : goal.returns-clause-offline
returns-clause-offline c = λ e. only_offline _ _ _ _ (sym c.in_table.ensures ∙ e)
