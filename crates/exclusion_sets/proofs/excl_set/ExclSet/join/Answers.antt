use Rattle.std.proofs.Common.{◌≡◌, ◌++◌, ap, ◌∙◌, rules}
use Rattle.exclusion_sets.specs.Exclusions.{is_excluded, uncovered}
use Rattle.exclusion_sets.proofs.SetLaws.{join_either}
use Rattle.exclusion_sets.proofs.excl_set.ExclSet.join.Goals as goal

pub returns-clause-either : goal.returns-clause-either
returns-clause-either c = λ m.
    let value : c.put_more.new.rules ≡ c.args.self.now.rules ++ uncovered c.args.self.now c.args.other.now.rules = search rules in
    ap (λ joined. is_excluded (record { rules = joined }) m) value ∙ join_either c.args.self.now c.args.other.now m
