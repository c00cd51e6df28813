-- What getting a file makes of the store.
use Rattle.std.specs.Prelude.{ℕ, ◌≡◌, List, Option, Some, None, IfSome}
use Rattle.cache_images.specs.Sound.{IsFaithful, IsSound}
use Rattle.cache_store.specs.Contents.{HasContent}
use Rattle.cache_store.specs.Kept.{KeepsFiles}
use Rattle.cache_store.specs.Parts.{HoldsBytes, Parts, part_at}
use Rattle.cache_store.specs.Stands.{disk_of, parts_of}
use Rattle.cache_store.specs.declared.part.Part.{Part}
use Rattle.cache_store.specs.declared.store.Store.{Store}
use Rattle.disk_base.specs.Images.{Image}
use Rattle.disk_base.specs.Names.{Names}
use Rattle.disk_base.specs.Runs.{Keeps}
use Rattle.res_base.specs.declared.world.WorldRow.{WorldRow}

-- Since then every image is sound, where every one was at the start; and each of these files is there as it was, where
-- every image had it.
pub record KeepsStore {D : Type 0} (told : D → Option Names) (moment : D → ℕ) (since : D → ℕ → Image → Type 0)
    (files : List ℕ → Type 0) (old new : Store D) : Type 0 where
  pub sound : Keeps told moment since IsSound (disk_of old) (disk_of new)
  pub stay : KeepsFiles told moment since files (disk_of old) (disk_of new)

-- Since then every image is faithful to the world, where every one was at the start.
pub record KeepsFaith {D : Type 0} (told : D → Option Names) (moment : D → ℕ) (since : D → ℕ → Image → Type 0)
    (w : List WorldRow) (old new : Store D) : Type 0 where
  pub faithful : Keeps told moment since (IsFaithful w) (disk_of old) (disk_of new)

-- no part is open
abbrev pub HasNoParts : Parts → Type 0
HasNoParts parts = (k : ℕ) → part_at parts k ≡ None

-- no other part is open
abbrev pub IsAlone : Parts → ℕ → Type 0
IsAlone parts number = (j : ℕ) → (j ≡ number → ⊥) → part_at parts j ≡ None

-- this part is open and not sealed, and no other one is open
pub record IsOpen (parts : Parts) (number : ℕ) : Type 0 where
  pub unsealed : IfSome (part_at parts number) (λ part. part.sealed ≡ None)
  pub holds : (all : List ℕ) × HoldsBytes parts number all
  pub alone : IsAlone parts number

-- this part is sealed for the name, and no other one is open
pub record IsSealedAlone (parts : Parts) (number : ℕ) (name : List ℕ) : Type 0 where
  pub part : Part
  pub there : part_at parts number ≡ Some part
  pub sealed : part.sealed ≡ Some name
  pub alone : IsAlone parts number

-- the part holds these bytes, by its digests and on the disk, where that is told
pub record IsHeld {D : Type 0} (told : D → Option Names) (store : Store D) (number : ℕ) (bytes : List ℕ) : Type 0 where
  pub sums : HoldsBytes (parts_of store) number bytes
  pub content : HasContent told (disk_of store) number bytes
