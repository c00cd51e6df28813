-- How words are refused.
use Rattle.std.specs.Prelude.{◌≡◌, ℕ, List, Option, Some, None, Result, Ok, Err, codes}
use Rattle.word_values.specs.declared.refusals.WordKind.{WordKind}
use Rattle.word_values.specs.declared.refusals.WordKind.TheVariants as kind
use Rattle.word_values.specs.declared.refusals.WordsErr.{WordsErr}
use Rattle.word_values.specs.declared.refusals.WordsErr.TheVariants.{BadWords, NoMemory}

-- the printed name of a kind
abbrev pub kind_text : WordKind → List ℕ
kind_text kind.TooMany = codes "too-many"
kind_text kind.NoCommand = codes "no-command"
kind_text kind.UnknownCommand = codes "unknown-command"
kind_text kind.Usage = codes "usage"
kind_text kind.Repositories = codes "repositories"
kind_text kind.Configuration = codes "configuration"
kind_text kind.Rule = codes "rule"
kind_text kind.Force = codes "force"
kind_text kind.Bom = codes "bom"
kind_text kind.Exclude = codes "exclude"
kind_text kind.Rounds = codes "rounds"
kind_text kind.Parallel = codes "parallel"
kind_text kind.Retries = codes "retries"
kind_text kind.Checks = codes "checks"
kind_text kind.Mode = codes "mode"
kind_text kind.Ttl = codes "ttl"
kind_text kind.Pool = codes "pool"
kind_text kind.Eager = codes "eager"
kind_text kind.Limit = codes "limit"
kind_text kind.Output = codes "output"
kind_text kind.Prefix = codes "prefix"
kind_text kind.Roots = codes "roots"
kind_text kind.Seed = codes "seed"
kind_text kind.Count = codes "count"

-- what is read, or the refusal of a kind at a place
abbrev pub Read : Type 0 → Type 0
Read A = Result A WordsErr

infixl 10 ◌>>=◌
unfoldable pub ◌>>=◌ : {A B : Type 0} → Read A → (A → Read B) → Read B
Ok value >>= next = next value
Err refusal >>= next = Err refusal

-- where a value does not read, the refusal of that kind
abbrev pub or_refused : {A : Type 0} → WordKind → Option A → Read A
or_refused k (Some value) = Ok value
or_refused k None = Err (BadWords k 0)

-- A call answers what its definition says, or that there is no memory.
abbrev pub Answers : {A : Type 0} → Read A → Read A → Type 0
Answers wanted (Ok value) = wanted ≡ Ok value
Answers wanted (Err NoMemory) = Unit {0}
Answers wanted (Err (BadWords k place)) = wanted ≡ Err (BadWords k place)
