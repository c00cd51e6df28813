-- What an upgrade of a record leaves.
use Rattle.std.specs.Prelude.{ℕ, ◌≡◌, Bool, true, false, List, Option, Some}
use Rattle.disk_base.specs.Names.{Names, read_name}
use Rattle.cache_images.specs.Leaves.{IsFirmly}
use Rattle.cache_images.specs.Places.{record_name}
use Rattle.cache_layout.specs.Readings.{record_in}
use Rattle.cache_layout.specs.declared.record.Record.{Record}
use Rattle.cache_reads.specs.declared.planning.Upgraded.{Upgraded}
use Rattle.cache_reads.specs.declared.planning.Upgraded.TheVariants.{Already, Done, Not}

-- a record was made
abbrev pub is_done : Upgraded → Bool
is_done (Done entry) = true
is_done (Already entry) = false
is_done Not = false

module _ {D : Type 0} (told : D → Option Names) where
  -- whatever a crash leaves, the record under this name is the one that was made
  abbrev pub HasRecordDone : D → List ℕ → Upgraded → Type 0
  HasRecordDone new name up = (entry : Record) → up ≡ Done entry → (s : Names) → told new ≡ Some s
      → (line : List ℕ) × IsFirmly (s (record_name name)) line × (record_in line ≡ Some entry)

  -- unless a record was made, the names are as they were
  abbrev pub StaysUnlessDone : D → D → Upgraded → Type 0
  StaysUnlessDone old new up = is_done up ≡ false → told new ≡ told old

  -- the file reads as before
  abbrev pub ReadsSame : D → D → List ℕ → Type 0
  ReadsSame old new name = (s after : Names) → told old ≡ Some s → told new ≡ Some after
      → read_name after name ≡ read_name s name
