-- How words are read by a simple command.
use Rattle.std.specs.Prelude.{◌≡◌, ◌⊎◌, ℕ, List, [], ◌∷◌, Result, Ok, Err, unwrap_or}
use Rattle.clap.specs.Words.{App, Kinds, Row, all_of, fault_of, found_of, matches_of, rows_of}
use Rattle.clap.specs.declared.error.kind.ErrorKind.{ErrorKind}
use Rattle.clap.specs.declared.error.kind.ErrorKind.TheVariants.{OutOfMemory}
use Rattle.clap.specs.declared.parser.matches.ArgMatches.{ArgMatches}
use Rattle.word_values.specs.Refusals.{Answers, Read}
use Rattle.word_values.specs.declared.refusals.WordKind.TheVariants.{Usage}
use Rattle.word_values.specs.declared.refusals.WordsErr.{WordsErr}
use Rattle.word_values.specs.declared.refusals.WordsErr.TheVariants.{BadWords, NoMemory}

-- what is found, where nothing is at fault
abbrev pub rows_unless : Kinds → List Row → Read (List Row)
rows_unless [] rows = Ok rows
rows_unless (kind ∷ kinds) rows = Err (BadWords Usage 0)

-- what `clap` finds in words, or its refusal, whatever its kind
abbrev pub rows_in : App → List (List ℕ) → Read (List Row)
rows_in app words = rows_unless (fault_of app words) (matches_of app words)

-- all texts of a name
abbrev pub all_texts : List ℕ → List Row → List (List ℕ)
all_texts name rows = unwrap_or (all_of name rows) []

-- a parse finds what is to be found, or refuses, or there is no memory
abbrev pub Finds : App → List (List ℕ) → Result ArgMatches WordsErr → Type 0
Finds app words (Ok matches) = rows_in app words ≡ Ok (rows_of (found_of matches))
Finds app words (Err refusal) = Answers (rows_in app words) (Err refusal)

-- want of memory stays, and any other refusal of `clap` is of one kind
abbrev pub IsRefusalOf : ErrorKind → WordsErr → Type 0
IsRefusalOf kind refusal = ((kind ≡ OutOfMemory) × (refusal ≡ NoMemory))
    ⊎ ((kind ≡ OutOfMemory → ⊥) × (refusal ≡ BadWords Usage 0))
