-- Parts of a text: without the bytes of a class at an end, and on both sides of a byte.
use Rattle.std.specs.Prelude.{ℕ, ◌+◌, Bool, List, [], ◌∷◌, Option, take, drop, position, if◌then◌else◌}
use Rattle.std.specs.Option.{option_map}

module _ (has : ℕ → Bool) where
  abbrev pub trim_start : List ℕ → List ℕ
  trim_start [] = []
  trim_start (byte ∷ text) = if has byte then trim_start text else byte ∷ text

  -- a byte before a text that is trimmed at its end
  abbrev pub before_trimmed : ℕ → List ℕ → List ℕ
  before_trimmed byte [] = if has byte then [] else byte ∷ []
  before_trimmed byte (next ∷ text) = byte ∷ next ∷ text

  abbrev pub trim_end : List ℕ → List ℕ
  trim_end [] = []
  trim_end (byte ∷ text) = before_trimmed byte (trim_end text)

  abbrev pub trim : List ℕ → List ℕ
  trim text = trim_start (trim_end text)

  -- what stands before and after the first such byte, if there is one
  abbrev pub cut_at : List ℕ → Option (List ℕ × List ℕ)
  cut_at text = option_map (λ place. (take place text, drop (place + 1) text)) (position has text)
