use Rattle.std.proofs.Common.{option_map, rules, sym}
use Rattle.word_values.specs.Samples.{sample_given}
use Rattle.word_values.proofs.Chains.{at_exit, exactly, pass, stop}
use Rattle.word_values.proofs.Fitting.{sample_fits}
use Rattle.word_values.proofs.sample.read_sample.Goals as goal

pub returns-in_err-seed-clause-value : goal.returns-in_err-seed-clause-value
returns-in_err-seed-clause-value c =
    at_exit _ (sample_given (option_map (λ text. text.now) c.args.seed) (option_map (λ text. text.now) c.args.count)) _ _
    (exactly _ _ c.in_err-seed.ensures.value)
    c.from_residual.ensures.1
    (λ is. stop _ _ _ is)

pub returns-in_err-count-clause-value : goal.returns-in_err-count-clause-value
returns-in_err-count-clause-value c =
    at_exit _ (sample_given (option_map (λ text. text.now) c.args.seed) (option_map (λ text. text.now) c.args.count)) _ _
    (exactly _ _ c.in_err-count.ensures.value)
    c.from_residual-in_err-count.ensures.1
    (λ is. pass _ _ _ _ (sym c.in_ok-seed.ensures.value) (stop _ _ _ is))

pub returns-clause-value : goal.returns-clause-value
returns-clause-value c =
    pass _ _ _ _ (sym c.in_ok-seed.ensures.value) (pass _ _ _ _ (sym c.in_ok-count.ensures.value) (search rules))

pub returns-clause-fits : goal.returns-clause-fits
returns-clause-fits c = sample_fits (option_map (λ text. text.now) c.args.seed) (option_map (λ text. text.now) c.args.count) _
    (returns-clause-value c)
