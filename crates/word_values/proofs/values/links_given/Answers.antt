use Rattle.std.proofs.Common.{rules, sym}
use Rattle.word_values.specs.Values.{links_given}
use Rattle.word_values.proofs.Chains.{at_exit, exactly, pass, stop}
use Rattle.word_values.proofs.values.links_given.Goals as goal

pub returns-in_err-parallel : goal.returns-in_err-parallel
unfolding links_given
returns-in_err-parallel g c =
    at_exit _ (links_given (g.G.Given.texts c.args.given.now)) _ _
    (exactly _ _ c.in_err-parallel.ensures.value)
    c.from_residual.ensures.1
    (λ is. stop _ _ _ is)

pub returns-in_err-retries : goal.returns-in_err-retries
unfolding links_given
returns-in_err-retries g c =
    at_exit _ (links_given (g.G.Given.texts c.args.given.now)) _ _
    (exactly _ _ c.in_err-retries.ensures.value)
    c.from_residual-in_err-retries.ensures.1
    (λ is. pass _ _ _ _ (sym c.in_ok-parallel.ensures.value) (stop _ _ _ is))

pub returns-in_err-checks : goal.returns-in_err-checks
unfolding links_given
returns-in_err-checks g c =
    at_exit _ (links_given (g.G.Given.texts c.args.given.now)) _ _
    c.in_err-checks.ensures
    c.from_residual-in_err-checks.ensures.1
    (λ is. pass _ _ _ _ (sym c.in_ok-parallel.ensures.value)
    (pass _ _ _ _ (sym c.in_ok-retries.ensures.value) (stop _ _ _ is)))

pub returns : goal.returns
unfolding links_given
returns g c =
    pass _ _ _ _ (sym c.in_ok-parallel.ensures.value)
    (pass _ _ _ _ (sym c.in_ok-retries.ensures.value)
    (pass _ _ _ _ c.in_ok-checks.ensures (search rules)))
