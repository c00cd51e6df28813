use Rattle.claim_rules.proofs.Resolved.{need_unknown, some_needs, over_needs, need_is_needed, needed_known, whole_over}
use Rattle.claim_rules.proofs.session_laws.session_needs.Goals as goal

pub returns-clause-unknown : goal.returns-clause-unknown
returns-clause-unknown g c = need_unknown

pub returns-clause-some : goal.returns-clause-some
returns-clause-some g c = some_needs

pub returns-clause-none : goal.returns-clause-none
returns-clause-none g c = over_needs

pub returns-clause-needed : goal.returns-clause-needed
returns-clause-needed g c = need_is_needed

pub returns-clause-all_known : goal.returns-clause-all_known
returns-clause-all_known g c = needed_known

pub returns-clause-whole : goal.returns-clause-whole
returns-clause-whole g c = whole_over
