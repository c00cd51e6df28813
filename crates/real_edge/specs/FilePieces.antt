-- The next piece of a file: what is so of each answer, and what it tells of what the file had left.
use Rattle.std.specs.Prelude.{ℕ, ◌≡◌, ◌<◌, ◌≤◌, List, [], Option, length, Result, Ok, Err, IfSome}
use Rattle.std.specs.Io.KnownBytes.{Consumes}
use Rattle.link_base.specs.declared.link_errors.LinkErr.{LinkErr}
use Rattle.link_base.specs.declared.links.Next.{Next}
use Rattle.link_base.specs.declared.links.Next.TheVariants.{Piece, End, TooLarge}

-- a piece has 1 to 65,536 bytes, and no more than there is room for
pub record FitsRoom (room : ℕ) (piece : List ℕ) : Type 0 where
  pub some : 0 < length piece
  pub few : length piece ≤ 65536
  pub within : length piece ≤ room

-- what is so of each answer, whatever the file has left
abbrev pub IsWithinRoom : ℕ → Result Next LinkErr → List ℕ → Type 0
IsWithinRoom room (Ok Piece) piece = FitsRoom room piece
IsWithinRoom room (Ok End) piece = piece ≡ []
IsWithinRoom room (Ok TooLarge) piece = (piece ≡ []) × (room ≡ 0)
IsWithinRoom room (Err e) piece = piece ≡ []

-- what it tells of what the file had left and has left: a piece is the next bytes, the end comes where none are left,
-- and too large where some are
abbrev pub IsNextOf : Option (List ℕ) → Option (List ℕ) → Result Next LinkErr → List ℕ → Type 0
IsNextOf had has (Ok Piece) piece = Consumes had has piece
IsNextOf had has (Ok End) piece = IfSome had (λ left. left ≡ [])
IsNextOf had has (Ok TooLarge) piece = IfSome had (λ left. 0 < length left)
IsNextOf had has (Err e) piece = Unit {0}
