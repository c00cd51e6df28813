-- What is found, unless something is at fault.
use Rattle.std.proofs.Common.{◌≡◌, ◌⊎◌, inl, inr, Bool, true, false, ◌&&◌, List, [], ◌∷◌, Ok, Err, refl}
use Rattle.clap.specs.Words.{IsAmong, Kinds, Row}
use Rattle.clap.specs.declared.error.kind.ErrorKind.{ErrorKind}
use Rattle.clap.specs.declared.error.kind.ErrorKind.TheVariants.{OutOfMemory}
use Rattle.cli_words.specs.Reading.{IsRefusalOf, rows_unless}
use Rattle.word_values.specs.Refusals.{Answers}
use Rattle.word_values.specs.declared.refusals.WordsErr.{WordsErr}
use Rattle.word_values.specs.declared.refusals.WordKind.TheVariants.{Usage}
use Rattle.word_values.specs.declared.refusals.WordsErr.TheVariants.{BadWords}

pub no_fault : (kinds : Kinds) (found rows : List Row) → kinds ≡ [] → rows ≡ found → rows_unless kinds found ≡ Ok rows
no_fault kinds found rows e same = rw (e, same) refl

pub some_fault : (kinds : Kinds) (kind : ErrorKind) (found : List Row) → IsAmong kind kinds → rows_unless kinds found ≡ Err (BadWords Usage 0)
some_fault [] kind found h = absurd h
some_fault (k ∷ kinds) kind found h = refl

pub first : (a b : Bool) → a && b ≡ true → a ≡ true
first true b e = refl
first false b e = e

pub refused : (kinds : Kinds) (kind : ErrorKind) (rows : List Row) (refusal : WordsErr) → IsRefusalOf kind refusal
    → (kind ≡ OutOfMemory) ⊎ IsAmong kind kinds → Answers (rows_unless kinds rows) (Err refusal)
refused kinds kind rows refusal (inl memory) h = rw memory.1 tt
refused kinds kind rows refusal (inr other) (inl memory) = absurd (other.0 memory)
refused kinds kind rows refusal (inr other) (inr among) = rw other.1 (some_fault kinds kind rows among)
