-- Which texts name contents below a disk's folder.
use Rattle.std.specs.Prelude.{ℕ, Bool, not, ◌&&◌, ◌==◌, List, [], ◌∷◌, IsTrue, nat_eq}
use Rattle.std.specs.List.{list_all, slice_split, starts_with}
use Rattle.ascii_bytes.specs.Signs.{slash, tilde}
use Rattle.res_base.specs.Plain.{is_at_most_two_dots}

-- a step to something in the folder: not to the folder itself, and not to the one above it
abbrev pub is_step : List ℕ → Bool
is_step text = not (is_at_most_two_dots text)

abbrev pub ends_step : ℕ → Bool
ends_step byte = byte == slash

-- steps with a slash between two
abbrev pub has_steps : List ℕ → Bool
has_steps name = list_all is_step (slice_split ends_step name)

-- such a text that does not begin as the place of new contents
abbrev pub is_name : List ℕ → Bool
is_name name = has_steps name && not (starts_with nat_eq name (tilde ∷ []))

abbrev pub IsName : List ℕ → Type 0
IsName name = IsTrue (is_name name)
