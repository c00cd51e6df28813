use Rattle.std.proofs.Common.{◌≡◌, ◌∙◌, [], ap, map, refl, string_bytes}
use Rattle.clap.specs.Words.{found_of, is_simple_and_free, rows_of}
use Rattle.cli_words.proofs.Readings.{found_in, options_say, refused_in}
use Rattle.cli_words.proofs.Simple.{resolve_is_simple}
use Rattle.cli_words.specs.Tables.{resolve_app}
use Rattle.cli_words.specs.Words.{options_job}
use Rattle.word_values.proofs.Chains.{at_exit, stop}
use Rattle.word_values.specs.Split.{texts_of}
use Rattle.cli_words.proofs.words.options_job.Goals as goal

pub matches_in-requires : goal.matches_in-requires
matches_in-requires c = ap is_simple_and_free c.in_ok-command_words.ensures ∙ resolve_is_simple

pub returns-in_err-matches-clause-value : goal.returns-in_err-matches-clause-value
unfolding options_job
returns-in_err-matches-clause-value c =
    at_exit _ (options_job c.args.command (map string_bytes c.args.words.now)) _ _
    (refused_in _ resolve_app (map string_bytes c.args.words.now) _ c.in_ok-command_words.ensures c.in_err-matches.ensures)
    c.from_residual-in_err-matches.ensures.1
    (λ is. stop _ _ _ is)

pub returns-in-Some-clause-value : goal.returns-in-Some-clause-value
returns-in-Some-clause-value c =
    options_say c.args.command (map string_bytes c.args.words.now) _ (rows_of (found_of c.new-found.result.matches)) _
    (texts_of c.in-Some.roots.now) _ (found_in _ resolve_app (map string_bytes c.args.words.now) _ c.in_ok-command_words.ensures c.in_ok-matches.ensures)
    (ap (λ matches. rows_of (found_of matches)) c.new-found.ensures) c.in-Some.ensures refl c.read_job.ensures.value

pub returns-clause-value : goal.returns-clause-value
returns-clause-value c =
    options_say c.args.command (map string_bytes c.args.words.now) _ (rows_of (found_of c.new-found.result.matches)) _
    [] _ (found_in _ resolve_app (map string_bytes c.args.words.now) _ c.in_ok-command_words.ensures c.in_ok-matches.ensures)
    (ap (λ matches. rows_of (found_of matches)) c.new-found.ensures) c.in-None.ensures refl c.read_job-in-None.ensures.value
