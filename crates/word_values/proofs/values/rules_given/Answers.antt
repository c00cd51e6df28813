use Rattle.std.proofs.Common.{rules, sym}
use Rattle.word_values.specs.Values.{rules_given}
use Rattle.word_values.proofs.Chains.{at_exit, exactly, pass, stop}
use Rattle.word_values.proofs.values.rules_given.Goals as goal

pub returns-in_err-configuration : goal.returns-in_err-configuration
unfolding rules_given
returns-in_err-configuration g c =
    at_exit _ (rules_given (g.G.Given.texts c.args.given.now)) _ _
    (exactly _ _ c.in_err-configuration.ensures)
    c.from_residual.ensures.1
    (λ is. stop _ _ _ is)

pub returns-in_err-rule : goal.returns-in_err-rule
unfolding rules_given
returns-in_err-rule g c =
    at_exit _ (rules_given (g.G.Given.texts c.args.given.now)) _ _
    (exactly _ _ c.in_err-rule.ensures)
    c.from_residual-in_err-rule.ensures.1
    (λ is. pass _ _ _ _ (sym c.in_ok-configuration.ensures) (stop _ _ _ is))

pub returns-in_err-forced : goal.returns-in_err-forced
unfolding rules_given
returns-in_err-forced g c =
    at_exit _ (rules_given (g.G.Given.texts c.args.given.now)) _ _
    c.in_err-forced.ensures
    c.from_residual-in_err-forced.ensures.1
    (λ is. pass _ _ _ _ (sym c.in_ok-configuration.ensures)
    (pass _ _ _ _ (sym c.in_ok-rule.ensures) (stop _ _ _ is)))

pub returns-in_err-boms : goal.returns-in_err-boms
unfolding rules_given
returns-in_err-boms g c =
    at_exit _ (rules_given (g.G.Given.texts c.args.given.now)) _ _
    c.in_err-boms.ensures
    c.from_residual-in_err-boms.ensures.1
    (λ is. pass _ _ _ _ (sym c.in_ok-configuration.ensures)
    (pass _ _ _ _ (sym c.in_ok-rule.ensures)
    (pass _ _ _ _ c.in_ok-forced.ensures (stop _ _ _ is))))

pub returns-in_err-excludes : goal.returns-in_err-excludes
unfolding rules_given
returns-in_err-excludes g c =
    at_exit _ (rules_given (g.G.Given.texts c.args.given.now)) _ _
    c.in_err-excludes.ensures
    c.from_residual-in_err-excludes.ensures.1
    (λ is. pass _ _ _ _ (sym c.in_ok-configuration.ensures)
    (pass _ _ _ _ (sym c.in_ok-rule.ensures)
    (pass _ _ _ _ c.in_ok-forced.ensures
    (pass _ _ _ _ c.in_ok-boms.ensures (stop _ _ _ is)))))

pub returns-in_err-rounds : goal.returns-in_err-rounds
unfolding rules_given
returns-in_err-rounds g c =
    at_exit _ (rules_given (g.G.Given.texts c.args.given.now)) _ _
    (exactly _ _ c.in_err-rounds.ensures.value)
    c.from_residual-in_err-rounds.ensures.1
    (λ is. pass _ _ _ _ (sym c.in_ok-configuration.ensures)
    (pass _ _ _ _ (sym c.in_ok-rule.ensures)
    (pass _ _ _ _ c.in_ok-forced.ensures
    (pass _ _ _ _ c.in_ok-boms.ensures
    (pass _ _ _ _ c.in_ok-excludes.ensures (stop _ _ _ is))))))

pub returns : goal.returns
unfolding rules_given
returns g c =
    pass _ _ _ _ (sym c.in_ok-configuration.ensures)
    (pass _ _ _ _ (sym c.in_ok-rule.ensures)
    (pass _ _ _ _ c.in_ok-forced.ensures
    (pass _ _ _ _ c.in_ok-boms.ensures
    (pass _ _ _ _ c.in_ok-excludes.ensures
    (pass _ _ _ _ (sym c.in_ok-rounds.ensures.value) (search rules))))))
