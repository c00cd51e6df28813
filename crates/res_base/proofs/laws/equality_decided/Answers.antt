use Rattle.res_base.proofs.Equality.{text_decided, module_decided, coord_decided, role_decided, key_decided}
use Rattle.res_base.proofs.laws.equality_decided.Goals as goal

pub returns-clause-texts : goal.returns-clause-texts
returns-clause-texts c = text_decided

pub returns-clause-modules : goal.returns-clause-modules
returns-clause-modules c = module_decided

pub returns-clause-coords : goal.returns-clause-coords
returns-clause-coords c = coord_decided

pub returns-clause-roles : goal.returns-clause-roles
returns-clause-roles c = role_decided

pub returns-clause-keys : goal.returns-clause-keys
returns-clause-keys c = key_decided
