-- What is found in words, and the job that it says.
use Rattle.std.proofs.Common.{◌≡◌, ℕ, List, [], Option, Ok, Err, subst, unwrap_or, refl, codes}
use Rattle.clap.specs.Words.{App, Row, all_of, first_of}
use Rattle.cli_words.specs.Reading.{all_texts, rows_in}
use Rattle.cli_words.specs.Tables.{resolve_app, sample_app}
use Rattle.cli_words.specs.Words.{options_job, sample_job}
use Rattle.word_values.proofs.Chains.{along, pass}
use Rattle.word_values.specs.Refusals.{Answers, Read}
use Rattle.word_values.specs.Samples.{sample_given}
use Rattle.word_values.specs.Values.{job_given}
use Rattle.word_values.specs.declared.job.Command.{Command}
use Rattle.word_values.specs.declared.job.Job.{Job}
use Rattle.word_values.specs.declared.refusals.WordsErr.{WordsErr}

-- what is said of a command is said of its description
pub refused_in : (app other : App) (words : List (List ℕ)) (refusal : WordsErr) → app ≡ other
    → Answers (rows_in app words) (Err refusal) → Answers (rows_in other words) (Err refusal)
refused_in app other words refusal e h = subst (λ a. Answers (rows_in a words) (Err refusal)) e h

pub found_in : (app other : App) (words : List (List ℕ)) (rows : List Row) → app ≡ other → rows_in app words ≡ Ok rows
    → rows_in other words ≡ Ok rows
found_in app other words rows e h = subst (λ a. rows_in a words ≡ Ok rows) e h

pub options_say : (command : Command) (words : List (List ℕ)) (rows given : List Row) (found : Option (List (List ℕ)))
    (roots : List (List ℕ)) (answer : Read Job) → rows_in resolve_app words ≡ Ok rows → given ≡ rows
    → found ≡ all_of (codes "roots") given → roots ≡ unwrap_or found []
    → Answers (job_given command (λ name. first_of name given) roots) answer → Answers (options_job command words) answer
unfolding options_job
options_say command words rows given found roots answer e same texts roots_are h =
    let is : job_given command (λ name. first_of name rows) (all_texts (codes "roots") rows)
    ≡ job_given command (λ name. first_of name given) roots = rw (roots_are, texts, same) refl in
    along (job_given command (λ name. first_of name given) roots) _ answer (pass _ _ rows _ e is) h

pub sample_says : (words : List (List ℕ)) (rows given : List Row) (seed count : Option (List ℕ)) (answer : Read Job)
    → rows_in sample_app words ≡ Ok rows → given ≡ rows → seed ≡ first_of (codes "seed") given → count ≡ first_of (codes "count") given
    → Answers (sample_given seed count) answer → Answers (sample_job words) answer
unfolding sample_job
sample_says words rows given seed count answer e same seed_is count_is h =
    let is : sample_given (first_of (codes "seed") rows) (first_of (codes "count") rows) ≡ sample_given seed count =
    rw (seed_is, count_is, same) refl in
    along (sample_given seed count) _ answer (pass _ _ rows _ e is) h
