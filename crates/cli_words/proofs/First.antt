-- The command that the first word names.
use Rattle.std.proofs.Common.{◌≡◌, ◌<◌, ◌≤◌, ℕ, List, [], ◌∷◌, Option, Some, None, Err, length, map, slice_get, refl, arith}
use Rattle.std.proofs.lemmas.Bool.Decides.{nat_tests}
use Rattle.std.proofs.lemmas.List.{length-map}
use Rattle.cli_words.specs.Words.{command_first, command_in, command_named}
use Rattle.word_values.specs.Refusals.{or_refused}
use Rattle.word_values.specs.declared.refusals.WordKind.TheVariants.{TooMany, NoCommand, UnknownCommand}
use Rattle.word_values.specs.declared.refusals.WordsErr.TheVariants.{BadWords}

module _ {A : Type 0} (text : A → List ℕ) where
  pub too_many : (words : List A) → 4096 < length words → command_in (map text words) ≡ Err (BadWords TooMany 4096)
  too_many words many = let same : length (map text words) ≡ length words = simp length-map in grind (arith, nat_tests, same)

  few : (words : List A) → length words ≤ 4096 → command_in (map text words) ≡ command_first (map text words)
  few words small = let same : length (map text words) ≡ length words = simp length-map in grind (arith, nat_tests, same)

  pub no_word : (words : List A) → slice_get words 0 ≡ None → command_in (map text words) ≡ Err (BadWords NoCommand 0)
  no_word [] e = refl
  no_word (word ∷ words) e = let no : ⊥ = cc in absurd no

  pub first_word : (words : List A) (word : A) → length words ≤ 4096 → slice_get words 0 ≡ Some word
      → command_in (map text words) ≡ or_refused UnknownCommand (command_named (text word))
  first_word [] word small e = let no : ⊥ = cc in absurd no
  first_word (w ∷ words) word small e = let same : w ≡ word = cc in rw (few (w ∷ words) small, same) refl
