-- What a live store has on its disk.
use Rattle.std.specs.Prelude.{ℕ, ◌≡◌, ◌<◌, ◌≤◌, List, Option, Some, Bool, IsSome, length}
use Rattle.disk_base.specs.Names.{Names, bytes_of}
use Rattle.disk_base.specs.declared.contents.Content.{Content}
use Rattle.res_base.specs.declared.world.WorldRow.{WorldRow}
use Rattle.cache_images.specs.Leaves.{IsAbsent, IsFirmly, IsSealed, IsSettled}
use Rattle.cache_images.specs.Places.{IsDataName, gone_name, part_name, record_name}
use Rattle.cache_images.specs.Sound.{IsWorlds}
use Rattle.cache_layout.specs.Readings.{gone_in}
use Rattle.cache_store.specs.Parts.{AreApart, HasBytes, Parts, part_at}
use Rattle.cache_store.specs.declared.part.Part.{Part}
use Rattle.cache_store.specs.declared.store.Store.{Store}

-- the digests and the length are those of the part's content, and where it is sealed its record stands
pub record HoldsPart (s : Names) (number : ℕ) (part : Part) : Type 0 where
  pub content : Content
  pub bound : (s (part_name number)).present ≡ Some content
  pub has : HasBytes part (bytes_of content)
  pub sealed : (name : List ℕ) → part.sealed ≡ Some name → IsSealed s number name

-- each open part stands on the disk as it is
abbrev pub HoldsParts : Names → Parts → Type 0
HoldsParts s parts = (number : ℕ) (part : Part) → part_at parts number ≡ Some part → HoldsPart s number part

-- no file and no absence record that was taken away can come back
abbrev pub FilesSettled : Names → Type 0
FilesSettled s = (name : List ℕ) → IsDataName name → IsSettled (s name) × IsSettled (s (gone_name name))

module _ {D : Type 0} where
  abbrev pub disk_of : Store D → D
  disk_of store = store.disk

  abbrev pub is_live : Store D → Bool
  is_live store = store.live

  abbrev pub parts_of : Store D → Parts
  parts_of store = store.parts.items

  -- what a live store has
  pub record Stands (told : D → Option Names) (store : Store D) : Type 0 where
    pub holds : (s : Names) → told store.disk ≡ Some s → HoldsParts s store.parts.items
    pub settled : (s : Names) → told store.disk ≡ Some s → FilesSettled s
    pub apart : AreApart store.parts.items
    pub few : length store.parts.items ≤ 4096

  -- the part, if it is open, is sealed for this name
  abbrev pub IsSealedFor : Store D → ℕ → List ℕ → Type 0
  IsSealedFor store number name = (part : Part) × (part_at store.parts.items number ≡ Some part)
      × (part.sealed ≡ Some name)

  -- the part isn't sealed for this name
  abbrev pub IsNotSealedAs : Store D → ℕ → List ℕ → Type 0
  IsNotSealedAs store number name = (part : Part) → part_at store.parts.items number ≡ Some part
      → part.sealed ≡ Some name → ⊥

  -- the part, sealed for a name, is the world's at the URL of that name, and the checks of its record accept it
  abbrev pub PublishesFor : (D → Option Names) → List WorldRow → Store D → ℕ → Type 0
  PublishesFor told w store number = (s : Names) (part : Part) (name : List ℕ) (sealed : IsSealed s number name)
      → told store.disk ≡ Some s → part_at store.parts.items number ≡ Some part → part.sealed ≡ Some name
      → IsWorlds w name sealed.bytes (Some sealed.line)

  -- whatever a crash leaves, the name has the part's bytes, and its record the line that was sealed
  abbrev pub IsPublished : (D → Option Names) → Store D → Store D → ℕ → Type 0
  IsPublished told old new number = (s after : Names) (part : Part) (name : List ℕ) (sealed : IsSealed s number name)
      → told old.disk ≡ Some s → told new.disk ≡ Some after → part_at old.parts.items number ≡ Some part
      → part.sealed ≡ Some name
      → IsFirmly (after name) sealed.bytes × IsFirmly (after (record_name name)) sealed.line

  -- the disk and the open parts are as they were
  pub record IsUnchanged (old new : Store D) : Type 0 where
    pub disk : new.disk ≡ old.disk
    pub parts : (number : ℕ) → part_at new.parts.items number ≡ part_at old.parts.items number

  -- as many parts are open as there may be
  abbrev pub IsFull : Store D → Type 0
  IsFull store = (number : ℕ) → number < 4096 → IsSome (part_at store.parts.items number)

  -- whatever a crash leaves, the name and its absence record are unbound
  abbrev pub IsTaken : (D → Option Names) → Store D → List ℕ → Type 0
  IsTaken told store name = (s : Names) → told store.disk ≡ Some s → IsAbsent (s name) × IsAbsent (s (gone_name name))

  -- whatever a crash leaves, the name is unbound, and its absence record is of this moment
  abbrev pub IsTold : (D → Option Names) → Store D → List ℕ → ℕ → Type 0
  IsTold told store name moment = (s : Names) → told store.disk ≡ Some s → IsAbsent (s name)
      × ((line : List ℕ) × IsFirmly (s (gone_name name)) line × (gone_in line ≡ Some moment))
