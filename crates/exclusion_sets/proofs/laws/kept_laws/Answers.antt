use Rattle.exclusion_sets.proofs.Minimal.{minimal_after, within_after, passes_after, among_after, covered_after, added_after}
use Rattle.exclusion_sets.proofs.laws.kept_laws.Goals as goal

pub returns-clause-minimal : goal.returns-clause-minimal
returns-clause-minimal c = minimal_after

pub returns-clause-within : goal.returns-clause-within
returns-clause-within c = within_after

pub returns-clause-passes : goal.returns-clause-passes
returns-clause-passes c = passes_after

pub returns-clause-among : goal.returns-clause-among
returns-clause-among c = among_after

pub returns-clause-covered : goal.returns-clause-covered
returns-clause-covered c = covered_after

pub returns-clause-added : goal.returns-clause-added
returns-clause-added c = added_after
