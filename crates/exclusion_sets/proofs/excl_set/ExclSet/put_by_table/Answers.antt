use Rattle.std.proofs.Common.{◌≡◌, ◌++◌, ap, subst, take, take_all, ◌∙◌}
use Rattle.exclusion_sets.specs.Lookups.{HasRules, unfound}
use Rattle.exclusion_sets.proofs.Lookups.{unfound_is_uncovered}
use Rattle.exclusion_sets.proofs.excl_set.ExclSet.put_by_table.Goals as goal

pub returns : goal.returns
returns c =
    let table = c.in_ok-table.table in
    let before = c.args.rules.now in
    let has : HasRules c.args.self.now.rules table = subst (λ known. HasRules known table) c.as_slice.ensures c.in_ok-table.ensures in
    let whole : take c.loop-rule.rule-index c.args.more.now ≡ c.args.more.now =
    take_all c.loop-rule.rule-index c.args.more.now c.loop-rule-test.false in
    c.loop-rule.invariant ∙ ap (λ more. before ++ unfound table more) whole
    ∙ ap (λ more. before ++ more) (unfound_is_uncovered c.args.self.now table has c.args.more.now)
