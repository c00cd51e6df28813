-- The items of a version's text.
use Rattle.std.specs.Prelude.{ℕ, Bool, true, ◌||◌, List, [], ◌∷◌, ◌==◌, flat_map}
use Rattle.std.specs.Bool.{beq}
use Rattle.std.specs.List.{slice_split}
use Rattle.ascii_bytes.specs.Classes.{is_digit}
use Rattle.ascii_bytes.specs.Signs.{dash, dot, plus, underscore}

-- . - _ +
abbrev pub is_separator : ℕ → Bool
is_separator c = c == dot || (c == dash || (c == underscore || c == plus))

-- a character before the runs of a piece: it begins the first run, or is a run of its own
abbrev pub before_runs : ℕ → Bool → List (List ℕ) → List (List ℕ)
before_runs c true (run ∷ runs) = (c ∷ run) ∷ runs
before_runs c same runs = (c ∷ []) ∷ runs

-- A piece is cut wherever a digit stands beside a character that is no digit. An empty piece is one empty run.
abbrev pub runs : List ℕ → List (List ℕ)
runs [] = [] ∷ []
runs (c ∷ []) = (c ∷ []) ∷ []
runs (c ∷ (d ∷ piece)) = before_runs c (beq (is_digit c) (is_digit d)) (runs (d ∷ piece))

-- the runs of the pieces between separators
abbrev pub items : List ℕ → List (List ℕ)
items text = flat_map runs (slice_split is_separator text)
