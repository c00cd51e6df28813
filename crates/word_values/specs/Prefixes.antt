-- What stands before each path that is printed.
use Rattle.std.specs.Prelude.{ℕ, Bool, List, [], Ok, Err, if◌then◌else◌, codes, unwrap_or, Option}
use Rattle.std.specs.List.{list_all}
use Rattle.ascii_bytes.specs.Classes.{between}
use Rattle.word_values.specs.Refusals.{Read}
use Rattle.word_values.specs.declared.refusals.WordKind.TheVariants as kind
use Rattle.word_values.specs.declared.refusals.WordsErr.TheVariants.{BadWords}

-- a printable character of ASCII
abbrev pub is_printable : ℕ → Bool
is_printable byte = between 32 126 byte

abbrev pub prefix_in : List ℕ → Read (List ℕ)
prefix_in text = if list_all is_printable text then Ok text else Err (BadWords kind.Prefix 0)

abbrev pub prefix_given : (List ℕ → Option (List ℕ)) → Read (List ℕ)
prefix_given given = prefix_in (unwrap_or (given (codes "prefix")) [])
