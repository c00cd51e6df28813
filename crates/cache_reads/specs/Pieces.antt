-- What reading a file in pieces takes.
use Rattle.std.specs.Prelude.{ℕ, ◌≡◌, ◌≤◌, ◌-◌, ◌^◌, ◌++◌, List, [], Option, Some, None, length, min, take, drop}
use Rattle.disk_base.specs.Names.{Names, read_name}
use Rattle.disk_base.specs.Reads.{AreRead}

-- a file that isn't there has no bytes to take
abbrev pub bytes_or_none : Option (List ℕ) → List ℕ
bytes_or_none None = []
bytes_or_none (Some bytes) = bytes

-- no more than the room, and nothing at a place of 2^63 or more
pub record FitsPlace (place room n : ℕ) : Type 0 where
  pub within : n ≤ room
  pub ends : 2 ^ 63 ≤ place → n ≡ 0

module _ {D : Type 0} (told : D → Option Names) (disk : D) (name : List ℕ) where
  -- these many bytes of the room are those from the place on
  pub record Fills (place : ℕ) (room : List ℕ) (n : ℕ) : Type 0 where
    pub each : (s : Names) → told disk ≡ Some s → AreRead (bytes_or_none (read_name s name)) place room n

  -- a piece from the place on was taken, as long as the room and the rest allow
  pub record TakesPiece (place room : ℕ) (before after : List ℕ → Type 0) (n : ℕ) : Type 0 where
    pub each : (s : Names) → told disk ≡ Some s → (taken : List ℕ) → before taken
        → (n ≡ min room (length (bytes_or_none (read_name s name)) - place))
        × after (taken ++ take n (drop place (bytes_or_none (read_name s name))))

  -- all the bytes were taken
  pub record ReadsAll (before after : List ℕ → Type 0) : Type 0 where
    pub all : (s : Names) → told disk ≡ Some s → (taken : List ℕ) → before taken
        → after (taken ++ bytes_or_none (read_name s name))
