-- What the words of a command ask for. The first test that fails counts.
use Rattle.std.specs.Prelude.{ℕ, List, [], ◌∷◌, Option, Some, None, Err, codes, length, nat_lt, if◌then◌else◌}
use Rattle.clap.specs.Words.{first_of}
use Rattle.cli_words.specs.Reading.{all_texts, rows_in}
use Rattle.cli_words.specs.Tables.{resolve_app, sample_app}
use Rattle.res_base.specs.Names.{text_eq}
use Rattle.word_values.specs.Refusals.{Read, ◌>>=◌, or_refused}
use Rattle.word_values.specs.Samples.{sample_given}
use Rattle.word_values.specs.Values.{job_given}
use Rattle.word_values.specs.declared.job.Command.{Command}
use Rattle.word_values.specs.declared.job.Command.TheVariants.{Resolve, Fetch, Sample}
use Rattle.word_values.specs.declared.job.Job.{Job}
use Rattle.word_values.specs.declared.refusals.WordKind.TheVariants.{TooMany, NoCommand, UnknownCommand}
use Rattle.word_values.specs.declared.refusals.WordsErr.TheVariants.{BadWords}

-- a command has at most so many words
abbrev pub most_words : ℕ
most_words = 4096

-- `resolve` or `fetch`
unfoldable pub options_job : Command → List (List ℕ) → Read Job
options_job command words = do
  rows ← rows_in resolve_app words
  job_given command (λ name. first_of name rows) (all_texts (codes "roots") rows)

unfoldable pub sample_job : List (List ℕ) → Read Job
sample_job words = do
  rows ← rows_in sample_app words
  sample_given (first_of (codes "seed") rows) (first_of (codes "count") rows)

abbrev pub command_named : List ℕ → Option Command
command_named name =
    if text_eq name (codes "resolve") then Some Resolve else
    if text_eq name (codes "fetch") then Some Fetch else
    if text_eq name (codes "sample") then Some Sample else None

-- the command that the first word names
abbrev pub command_first : List (List ℕ) → Read Command
command_first [] = Err (BadWords NoCommand 0)
command_first (name ∷ rest) = or_refused UnknownCommand (command_named name)

-- the same, of words that are not too many
abbrev pub command_in : List (List ℕ) → Read Command
command_in words = if nat_lt most_words (length words) then Err (BadWords TooMany most_words) else command_first words

abbrev pub job_of_command : Command → List (List ℕ) → Read Job
job_of_command Resolve words = options_job Resolve words
job_of_command Fetch words = options_job Fetch words
job_of_command Sample words = sample_job words

-- the job that the words ask for, or their first refusal
unfoldable pub job_in : List (List ℕ) → Read Job
job_in words = do
  command ← command_in words
  job_of_command command words
