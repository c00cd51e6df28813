-- What stands between separators, up to the first one.
use Rattle.std.proofs.Common.{◌≡◌, ℕ, ◌<◌, ◌==◌, List, [], ◌∷◌, length, arith, refl}
use Rattle.std.proofs.lemmas.Grind.{common_steps}
use Rattle.std.proofs.lemmas.List.Splits.{slice_split_first}
use Rattle.std.specs.List.{before_first, after_first, position_or_len}
use Rattle.case_words.specs.Words.{pieces_of}

pub no_separator : (separator : ℕ) (text : List ℕ) → position_or_len (λ byte. byte == separator) text ≡ length text → pieces_of separator text ≡ text ∷ []
no_separator separator [] e = refl
no_separator separator (b ∷ text) e = grind (arith, common_steps, no_separator separator text)

pub first_separator : (separator : ℕ) (text : List ℕ) → position_or_len (λ byte. byte == separator) text < length text
    → pieces_of separator text ≡ before_first (λ byte. byte == separator) text ∷ pieces_of separator (after_first (λ byte. byte == separator) text)
first_separator separator text h = slice_split_first (λ byte. byte == separator) text 0 h
