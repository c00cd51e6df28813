use Rattle.std.proofs.Common.{◌≡◌, IfOk, subst, sym, ap, ◌∙◌}
use Rattle.std.specs.Option.{option_copied}
use Rattle.reconcile_rules.specs.Choose.{by_relaxed}
use Rattle.reconcile_rules.proofs.Cases.{relaxed_is}
use Rattle.reconcile_rules.proofs.rules.by_relaxed.Goals as goal

pub returns-in_ok-common-in-None : goal.returns-in_ok-common-in-None
returns-in_ok-common-in-None c =
    let listed = option_copied c.args.listed in
    let choice =
    relaxed_is c.as_slice.result.now c.as_slice-intervals.result.now listed
    (option_copied c.last-last.result) c.in_ok-common-in-None.common c.last-last.ensures
    (sym c.last_clash.ensures ∙ c.in-None.is) c.in_ok-common-in-None.ensures
    ∙ ap (λ xs. by_relaxed xs c.as_slice-intervals.result.now listed) c.as_slice.ensures.value
    ∙ ap (λ ys. by_relaxed c.args.asked.now.plains.items ys listed) c.as_slice-intervals.ensures.value in
    subst (λ x. IfOk c.relaxed_within.result (λ made. made ≡ x)) choice c.relaxed_within.ensures
