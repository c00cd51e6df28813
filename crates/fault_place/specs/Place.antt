-- Where a text leaves a grammar, which is given by the texts that it accepts.
use Rattle.std.specs.Prelude.{ℕ, ◌+◌, ◌<◌, ◌≤◌, List, ◌++◌, length, take}

-- some rest makes an accepted text of this prefix
abbrev pub GoesOn : (List ℕ → Type 0) → List ℕ → Type 0
GoesOn accepts prefix = (rest : List ℕ) × accepts (prefix ++ rest)

-- The text is not accepted, and its first `place` bytes are its longest prefix that goes on.
pub record IsPlace (accepts : List ℕ → Type 0) (text : List ℕ) (place : ℕ) : Type 0 where
  pub within : place ≤ length text
  pub outside : accepts text → ⊥
  pub goes_on : GoesOn accepts (take place text)
  pub no_more : place < length text → GoesOn accepts (take (place + 1) text) → ⊥
