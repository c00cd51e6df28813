-- Where the head of a reply ends: with the first empty line behind a line that isn't empty, within 65,536 bytes.
use Rattle.std.specs.Prelude.{ℕ, [], ◌∷◌, ◌++◌, Option, Some, None, if◌then◌else◌, ◌==◌, length}
use Rattle.http_wire.specs.declared.line_places.LinePlace.{LinePlace}
use Rattle.http_wire.specs.declared.line_places.LinePlace.TheVariants.{Leading}
use Rattle.http_wire.specs.LinePlaces.{next_line_place}
use Rattle.http_wire.specs.Fields.{Bytes}

-- the bytes of a reply, split at the end of its head: all of them are of the head so far; the first 65,536 hold no end of
-- it; or those up to the end, and those behind it
pub data Split : Type 0 where
  in_head : LinePlace → Bytes → Split
  no_head : Split
  behind_head : Bytes → Bytes → Split

abbrev pub split_at : Option LinePlace → Bytes → Split
split_at None front = behind_head front []
split_at (Some line) front = if length front == 65536 then no_head else in_head line front

-- with one more byte
abbrev pub split_after : Split → ℕ → Split
split_after (in_head line front) b = split_at (next_line_place line b) (front ++ b ∷ [])
split_after no_head b = no_head
split_after (behind_head front rest) b = behind_head front (rest ++ b ∷ [])

-- with all these bytes
abbrev pub split_from : Split → Bytes → Split
split_from split [] = split
split_from split (b ∷ bytes) = split_from (split_after split b) bytes

abbrev pub split_of : Bytes → Split
split_of bytes = split_from (in_head Leading []) bytes
