use Rattle.std.proofs.Common.{◌≡◌, IfOk, subst, sym, ◌∙◌}
use Rattle.std.specs.Option.{option_copied}
use Rattle.reconcile_rules.specs.Asked.{constraints}
use Rattle.reconcile_rules.proofs.Cases.{none_named, some_named}
use Rattle.reconcile_rules.proofs.rules.choose_unforced.Goals as goal

pub returns-then-is_empty : goal.returns-then-is_empty
returns-then-is_empty c =
    none_named c.args.rule (constraints c.args.requests.now)
    (option_copied c.args.listed) c.in_ok-number.field-0 c.in-Asked.asked c.in_ok-number.ensures c.in-Asked.is
    (sym c.if-is_empty.true ∙ c.is_empty.ensures)

pub returns-else-is_empty : goal.returns-else-is_empty
returns-else-is_empty c =
    subst (λ choice. IfOk c.by_rule.result (λ made. made ≡ choice))
    (some_named c.args.rule (constraints c.args.requests.now) (option_copied c.args.listed) c.in_ok-number.field-0 c.in-Asked.asked c.in_ok-number.ensures c.in-Asked.is (sym c.if-is_empty.false ∙ c.is_empty.ensures))
    c.by_rule.ensures
