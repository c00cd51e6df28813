-- Items cut in one pass: a piece that has begun, and what is left of the text.
use Rattle.std.specs.Prelude.{ℕ, Bool, false, not, ◌||◌, if◌then◌else◌, List, [], ◌∷◌, ◌++◌}
use Rattle.std.specs.Bool.{beq}
use Rattle.ascii_bytes.specs.Classes.{is_digit}
use Rattle.version_order.specs.Items.{is_separator}

-- a digit meets another character
abbrev pub breaks : List ℕ → ℕ → Bool
breaks [] c = false
breaks (d ∷ piece) c = not (beq (is_digit d) (is_digit c))

abbrev pub ends_piece : List ℕ → ℕ → Bool
ends_piece piece c = is_separator c || breaks piece c

abbrev pub piece_after : List ℕ → ℕ → List ℕ
piece_after piece c = if is_separator c then [] else (if breaks piece c then c ∷ [] else piece ++ c ∷ [])

abbrev pub items_from : List ℕ → List ℕ → List (List ℕ)
items_from piece [] = piece ∷ []
items_from piece (c ∷ text) = (if ends_piece piece c then piece ∷ [] else []) ++ items_from (piece_after piece c) text
