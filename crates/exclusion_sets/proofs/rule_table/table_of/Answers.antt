use Rattle.std.proofs.Common.{◌≡◌, ◌+◌, true, [], ◌∷◌, ◌++◌, add-one, ap, subst, sym, take, ◌∙◌}
use Rattle.std.specs.BTreeSet.{Updates}
use Rattle.std.proofs.Math.Seq.{take-suc}
use Rattle.res_base.specs.Names.{module_cmp}
use Rattle.exclusion_sets.specs.Lookups.{HasRules}
use Rattle.exclusion_sets.proofs.Lookups.{rules_push}
use Rattle.exclusion_sets.proofs.rule_table.table_of.Goals as goal

pub loop-rule-preserved : goal.loop-rule-preserved
loop-rule-preserved c =
    let given = c.args.rules.now in
    let place = c.loop-rule.rule-index in
    let rule = c.rule-item.result in
    let noted : Updates module_cmp c.loop-rule.table c.insert.new.self (record { org = rule.org; name = rule.name }) true =
    rw (← c.in_ok-org.ensures, ← c.in_ok-name.ensures) c.in_ok-insert.ensures.updates in
    let next : take (place + 1) given ≡ take place given ++ rule ∷ [] =
    rw add-one (take-suc given place rule c.loop-rule-test.true ∙ ap (λ one. take place given ++ one ∷ []) (sym c.rule-item.is)) in
    subst (λ known. HasRules known c.insert.new.self) (sym next)
    (rules_push (take place given) rule c.loop-rule.table c.insert.new.self c.loop-rule.invariant noted)
