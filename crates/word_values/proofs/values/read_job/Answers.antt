use Rattle.std.proofs.Common.{Ok, ap, sym}
use Rattle.word_values.specs.Values.{job_given}
use Rattle.word_values.proofs.Chains.{at_exit, exactly, pass, stop}
use Rattle.word_values.proofs.Fitting.{job_fits}
use Rattle.word_values.specs.Split.{texts_of}
use Rattle.word_values.proofs.values.read_job.Goals as goal

pub returns-in_err-addresses-clause-value : goal.returns-in_err-addresses-clause-value
unfolding job_given
returns-in_err-addresses-clause-value g c =
    at_exit _ (job_given c.args.command (g.G.Given.texts c.args.given.now) (texts_of c.args.roots.now)) _ _
    c.in_err-addresses.ensures.value
    c.from_residual.ensures.1
    (λ is. stop _ _ _ is)

pub returns-in_err-rules-clause-value : goal.returns-in_err-rules-clause-value
unfolding job_given
returns-in_err-rules-clause-value g c =
    at_exit _ (job_given c.args.command (g.G.Given.texts c.args.given.now) (texts_of c.args.roots.now)) _ _
    c.in_err-rules.ensures
    c.from_residual-in_err-rules.ensures.1
    (λ is. pass _ _ _ _ c.in_ok-addresses.ensures.value (stop _ _ _ is))

pub returns-in_err-links-clause-value : goal.returns-in_err-links-clause-value
unfolding job_given
returns-in_err-links-clause-value g c =
    at_exit _ (job_given c.args.command (g.G.Given.texts c.args.given.now) (texts_of c.args.roots.now)) _ _
    c.in_err-links.ensures
    c.from_residual-in_err-links.ensures.1
    (λ is. pass _ _ _ _ c.in_ok-addresses.ensures.value
    (pass _ _ _ _ c.in_ok-rules.ensures (stop _ _ _ is)))

pub returns-in_err-cache-clause-value : goal.returns-in_err-cache-clause-value
unfolding job_given
returns-in_err-cache-clause-value g c =
    at_exit _ (job_given c.args.command (g.G.Given.texts c.args.given.now) (texts_of c.args.roots.now)) _ _
    (exactly _ _ c.in_err-cache.ensures)
    c.from_residual-in_err-cache.ensures.1
    (λ is. pass _ _ _ _ c.in_ok-addresses.ensures.value
    (pass _ _ _ _ c.in_ok-rules.ensures
    (pass _ _ _ _ c.in_ok-links.ensures (stop _ _ _ is))))

pub returns-in_err-shows-clause-value : goal.returns-in_err-shows-clause-value
unfolding job_given
returns-in_err-shows-clause-value g c =
    at_exit _ (job_given c.args.command (g.G.Given.texts c.args.given.now) (texts_of c.args.roots.now)) _ _
    c.in_err-shows.ensures
    c.from_residual-in_err-shows.ensures.1
    (λ is. pass _ _ _ _ c.in_ok-addresses.ensures.value
    (pass _ _ _ _ c.in_ok-rules.ensures
    (pass _ _ _ _ c.in_ok-links.ensures
    (pass _ _ _ _ (sym c.in_ok-cache.ensures) (stop _ _ _ is)))))

pub returns-in_err-roots-clause-value : goal.returns-in_err-roots-clause-value
unfolding job_given
returns-in_err-roots-clause-value g c =
    at_exit _ (job_given c.args.command (g.G.Given.texts c.args.given.now) (texts_of c.args.roots.now)) _ _
    c.in_err-roots.ensures
    c.from_residual-in_err-roots.ensures.1
    (λ is. pass _ _ _ _ c.in_ok-addresses.ensures.value
    (pass _ _ _ _ c.in_ok-rules.ensures
    (pass _ _ _ _ c.in_ok-links.ensures
    (pass _ _ _ _ (sym c.in_ok-cache.ensures)
    (pass _ _ _ _ c.in_ok-shows.ensures (stop _ _ _ is))))))

pub returns-clause-value : goal.returns-clause-value
unfolding job_given
returns-clause-value g c =
    pass _ _ _ _ c.in_ok-addresses.ensures.value
    (pass _ _ _ _ c.in_ok-rules.ensures
    (pass _ _ _ _ c.in_ok-links.ensures
    (pass _ _ _ _ (sym c.in_ok-cache.ensures)
    (pass _ _ _ _ c.in_ok-shows.ensures
    (pass _ _ _ _ c.in_ok-roots.ensures (sym (ap Ok c.job_from.ensures)))))))

pub returns-clause-fits : goal.returns-clause-fits
returns-clause-fits g c = λ other. job_fits c.args.command (g.G.Given.texts c.args.given.now) (texts_of c.args.roots.now) _ other
    (returns-clause-value g c)
