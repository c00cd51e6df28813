use Rattle.exclusion_sets.proofs.SetLaws.{within-refl, within-trans, excludes_more, passes_more}
use Rattle.exclusion_sets.proofs.laws.within_laws.Goals as goal

pub returns-clause-reflexive : goal.returns-clause-reflexive
returns-clause-reflexive c = within-refl

pub returns-clause-transitive : goal.returns-clause-transitive
returns-clause-transitive c = within-trans

pub returns-clause-excludes : goal.returns-clause-excludes
returns-clause-excludes c = excludes_more

pub returns-clause-passes : goal.returns-clause-passes
returns-clause-passes c = passes_more
