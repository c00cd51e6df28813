-- The repositories of a job.
use Rattle.std.specs.Prelude.{ℕ, Bool, List, [], ◌∷◌, Option, Some, None, Err, length, codes, ◌==◌, if◌then◌else◌}
use Rattle.cache_layout.specs.Addresses.{is_address}
use Rattle.link_base.specs.FilePaths.{is_slash}
use Rattle.word_values.specs.Members.{members_in}
use Rattle.word_values.specs.Refusals.{Read}
use Rattle.word_values.specs.Split.{members_of}
use Rattle.word_values.specs.declared.refusals.WordKind.TheVariants as kind
use Rattle.word_values.specs.declared.refusals.WordsErr.TheVariants.{BadWords}

abbrev pub before_end : ℕ → List ℕ → List ℕ
before_end b [] = if is_slash b then [] else b ∷ []
before_end b (c ∷ text) = b ∷ c ∷ text

-- a text without the slashes at its end
abbrev pub without_slashes : List ℕ → List ℕ
without_slashes [] = []
without_slashes (b ∷ text) = before_end b (without_slashes text)

-- the address that a word gives
abbrev pub address_of : List ℕ → Option (List ℕ)
address_of word = if is_address (without_slashes word) then Some (without_slashes word) else None

-- the number of repositories is limited
abbrev pub most_repositories : ℕ
most_repositories = 16

abbrev pub repository_in : List (List ℕ) → List ℕ → Bool → Option (List ℕ)
repository_in before word is_last = if length before == most_repositories then None else address_of word

-- a command without repositories does not fit its options
abbrev pub addresses_of : Option (List ℕ) → Read (List (List ℕ))
addresses_of None = Err (BadWords kind.Usage 0)
addresses_of (Some text) = members_in kind.Repositories repository_in (members_of text)

abbrev pub addresses_given : (List ℕ → Option (List ℕ)) → Read (List (List ℕ))
addresses_given given = addresses_of (given (codes "repositories"))
