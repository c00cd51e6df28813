use Rattle.std.proofs.Common.{rules, sym}
use Rattle.word_values.specs.Values.{shows_given}
use Rattle.word_values.proofs.Chains.{at_exit, exactly, pass, stop}
use Rattle.word_values.proofs.values.shows_given.Goals as goal

pub returns-in_err-output : goal.returns-in_err-output
unfolding shows_given
returns-in_err-output g c =
    at_exit _ (shows_given c.args.command (g.G.Given.texts c.args.given.now)) _ _
    (exactly _ _ c.in_err-output.ensures)
    c.from_residual.ensures.1
    (λ is. stop _ _ _ is)

pub returns-in_err-prefix : goal.returns-in_err-prefix
unfolding shows_given
returns-in_err-prefix g c =
    at_exit _ (shows_given c.args.command (g.G.Given.texts c.args.given.now)) _ _
    c.in_err-prefix.ensures
    c.from_residual-in_err-prefix.ensures.1
    (λ is. pass _ _ _ _ (sym c.in_ok-output.ensures) (stop _ _ _ is))

pub returns : goal.returns
unfolding shows_given
returns g c =
    pass _ _ _ _ (sym c.in_ok-output.ensures) (pass _ _ _ _ c.in_ok-prefix.ensures (search rules))
