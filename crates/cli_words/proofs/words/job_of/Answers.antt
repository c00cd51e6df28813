use Rattle.std.proofs.Common.{map, string_bytes, refl, sym}
use Rattle.cli_words.specs.Words.{job_in, job_of_command}
use Rattle.word_values.proofs.Chains.{along, at_exit, exactly, pass, stop}
use Rattle.cli_words.proofs.words.job_of.Goals as goal

pub returns-in_err-command-clause-value : goal.returns-in_err-command-clause-value
unfolding job_in
returns-in_err-command-clause-value c =
    at_exit _ (job_in (map string_bytes c.args.words.now)) _ _ (exactly _ _ c.in_err-command.ensures)
    c.from_residual.ensures.1 (λ is. stop _ _ _ is)

pub returns-clause-value : goal.returns-clause-value
unfolding job_in
returns-clause-value c =
    along _ (job_in (map string_bytes c.args.words.now)) _ (pass _ _ _ _ (sym c.in_ok-command.ensures) refl)
    c.job_of_command.ensures.value
