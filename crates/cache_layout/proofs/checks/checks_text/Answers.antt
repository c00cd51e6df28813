use Rattle.std.proofs.Common.{ap, sym, take, ◌∙◌, ◌++◌}
use Rattle.std.proofs.lemmas.List.{take_more}
use Rattle.cache_layout.specs.Fields.{with_bar}
use Rattle.cache_layout.specs.Lines.{checks_text}
use Rattle.cache_layout.proofs.CheckLists.{name_behind}
use Rattle.cache_layout.proofs.checks.checks_text.Goals as goal

pub loop-check-preserved : goal.loop-check-preserved
loop-check-preserved c =
    let checks = c.args.checks.now in
    let i = c.loop-check.check-index in
    c.in_ok-push_str.ensures.ok
    ∙ ap (λ t. t ++ c.check_text.result.now) (c.in_ok-push_bar.ensures ∙ ap with_bar c.loop-check.invariant)
    ∙ ap (λ t. with_bar (checks_text (take i checks)) ++ t) c.check_text.ensures
    ∙ sym (name_behind (take i checks) _) ∙ ap checks_text (sym (take_more checks i _ c.loop-check-test.true))
