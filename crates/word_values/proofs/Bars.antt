-- What stands between bars, up to the first one.
use Rattle.std.proofs.Common.{◌≡◌, ℕ, ◌<◌, List, [], ◌∷◌, length, arith, refl}
use Rattle.std.proofs.lemmas.Grind.{common_steps}
use Rattle.std.proofs.lemmas.List.Splits.{slice_split_first}
use Rattle.std.specs.List.{before_first, after_first, position_or_len}
use Rattle.word_values.specs.Split.{is_bar, members_of}

pub no_bar : (text : List ℕ) → position_or_len is_bar text ≡ length text → members_of text ≡ text ∷ []
no_bar [] e = refl
no_bar (b ∷ text) e = grind (arith, common_steps, no_bar text)

pub first_bar : (text : List ℕ) → position_or_len is_bar text < length text
    → members_of text ≡ before_first is_bar text ∷ members_of (after_first is_bar text)
first_bar text h = slice_split_first is_bar text 0 h
