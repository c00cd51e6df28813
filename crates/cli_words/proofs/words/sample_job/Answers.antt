use Rattle.std.proofs.Common.{◌≡◌, ◌∙◌, ap, map, option_map, string_bytes}
use Rattle.clap.specs.Words.{found_of, is_simple_and_free, rows_of}
use Rattle.cli_words.proofs.Readings.{found_in, refused_in, sample_says}
use Rattle.cli_words.proofs.Simple.{sample_is_simple}
use Rattle.cli_words.specs.Tables.{sample_app}
use Rattle.cli_words.specs.Words.{sample_job}
use Rattle.word_values.proofs.Chains.{at_exit, stop}
use Rattle.cli_words.proofs.words.sample_job.Goals as goal

pub matches_in-requires : goal.matches_in-requires
matches_in-requires c = ap is_simple_and_free c.in_ok-command_words.ensures ∙ sample_is_simple

pub returns-in_err-matches-clause-value : goal.returns-in_err-matches-clause-value
unfolding sample_job
returns-in_err-matches-clause-value c =
    at_exit _ (sample_job (map string_bytes c.args.words.now)) _ _
    (refused_in _ sample_app (map string_bytes c.args.words.now) _ c.in_ok-command_words.ensures c.in_err-matches.ensures)
    c.from_residual-in_err-matches.ensures.1
    (λ is. stop _ _ _ is)

pub returns-clause-value : goal.returns-clause-value
returns-clause-value c =
    sample_says (map string_bytes c.args.words.now) _ (rows_of (found_of c.new-found.result.matches))
    (option_map (λ text. text.now) c.text.result) (option_map (λ text. text.now) c.text-2.result) _
    (found_in _ sample_app (map string_bytes c.args.words.now) _ c.in_ok-command_words.ensures c.in_ok-matches.ensures)
    (ap (λ matches. rows_of (found_of matches)) c.new-found.ensures) c.text.ensures c.text-2.ensures
    c.read_sample.ensures.value
