use Rattle.std.proofs.lemmas.Slice.Eq.{slice_eq-Decides}
use Rattle.exclusion_sets.proofs.SetLaws.{rules_decide}
use Rattle.exclusion_sets.proofs.excl_set.is_same_rules.Goals as goal

pub returns : goal.returns
returns c = slice_eq-Decides rules_decide c.args.one.now c.args.other.now c.eq.result c.eq.ensures
