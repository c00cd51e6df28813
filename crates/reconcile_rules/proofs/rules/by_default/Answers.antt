use Rattle.std.proofs.Common.{◌≡◌, IfOk, subst, ap, ◌∙◌}
use Rattle.std.specs.Option.{option_copied}
use Rattle.reconcile_rules.specs.Choose.{by_default}
use Rattle.reconcile_rules.proofs.Cases.{default_is}
use Rattle.reconcile_rules.proofs.rules.by_default.Goals as goal

pub returns-in-Some : goal.returns-in-Some
returns-in-Some c =
    let listed = option_copied c.args.listed in
    let choice =
    default_is c.as_slice-in-Some.result.now c.as_slice.result.now listed c.in_ok-all_common.field-0 c.in-Some.common c.in_ok-all_common.ensures c.in-Some.is
    ∙ ap (λ xs. by_default xs c.as_slice.result.now listed) c.as_slice-in-Some.ensures.value
    ∙ ap (λ ys. by_default c.args.asked.now.plains.items ys listed) c.as_slice.ensures.value in
    subst (λ x. IfOk c.default_within.result (λ made. made ≡ x)) choice c.default_within.ensures
