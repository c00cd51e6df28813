-- What was read of a file so far.
use Rattle.std.specs.Prelude.{ℕ, ◌≡◌, List, Option, length, take, IfSome}

-- these bytes are the first of the file, where there is one
abbrev pub BeginsFile : Option (List ℕ) → List ℕ → Type 0
BeginsFile file bytes = IfSome file (λ all. bytes ≡ take (length bytes) all)
