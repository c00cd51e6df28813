-- Texts with bars between their members.
use Rattle.std.specs.Prelude.{ℕ, Bool, List, map, ◌==◌}
use Rattle.std.specs.Borrow.{Bor}
use Rattle.std.specs.List.{slice_split}
use Rattle.ascii_bytes.specs.Signs.{bar}

-- the texts that references point to
abbrev pub texts_of : List (Bor (List ℕ)) → List (List ℕ)
texts_of texts = map (λ text. text.now) texts

abbrev pub is_bar : ℕ → Bool
is_bar byte = byte == bar

-- what stands between bars, in order
abbrev pub members_of : List ℕ → List (List ℕ)
members_of text = slice_split is_bar text
