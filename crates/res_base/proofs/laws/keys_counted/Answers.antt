use Rattle.res_base.specs.Names.{key_eq}
use Rattle.res_base.proofs.Equality.{key_same, key_itself}
use Rattle.res_base.proofs.Members.{into_each_once, among_each_once}
use Rattle.res_base.proofs.Pigeons.{pigeons, counted_once}
use Rattle.res_base.proofs.laws.keys_counted.Goals as goal

pub returns-clause-pigeons : goal.returns-clause-pigeons
returns-clause-pigeons c = pigeons key_eq key_same key_itself

pub returns-clause-kept : goal.returns-clause-kept
returns-clause-kept c key keys = (into_each_once key_eq key_same key keys, among_each_once key_eq key_same key keys)

pub returns-clause-once : goal.returns-clause-once
returns-clause-once c = counted_once key_eq key_same key_itself
