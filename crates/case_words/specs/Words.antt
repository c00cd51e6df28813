-- Words of a line.
use Rattle.std.specs.Prelude.{ℕ, List, map, false, ◌==◌, ◌≡◌}
use Rattle.std.specs.List.{list_any, slice_split, join_by}
use Rattle.std.specs.Borrow.{Bor}

-- the texts that references point to
abbrev pub texts_of : List (Bor (List ℕ)) → List (List ℕ)
texts_of pieces = map (λ piece. piece.now) pieces

-- what stands between separators, in order
abbrev pub pieces_of : ℕ → List ℕ → List (List ℕ)
pieces_of separator text = slice_split (λ byte. byte == separator) text

-- the texts in order, with the separator between two
abbrev pub joined : List ℕ → List (List ℕ) → List ℕ
joined separator texts = join_by (λ text. text) separator texts

-- no line feed is in the text
abbrev pub IsOneLine : List ℕ → Type 0
IsOneLine text = list_any (λ byte. byte == 10) text ≡ false
