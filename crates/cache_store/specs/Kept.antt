-- What a call of the store keeps of what a crash may leave.
use Rattle.std.specs.Prelude.{ℕ, ◌≡◌, ◌≢◌, List, Option, Some, None}
use Rattle.cache_images.specs.Places.{IsDataName}
use Rattle.cache_images.specs.Sound.{IsFaithful, IsSound, IsUrlOf}
use Rattle.disk_base.specs.Images.{Image}
use Rattle.disk_base.specs.Names.{Names}
use Rattle.disk_base.specs.Runs.{Keeps}
use Rattle.res_base.specs.World.{at}
use Rattle.res_base.specs.declared.world.WorldRow.{WorldRow}

abbrev pub AnyFile : List ℕ → Type 0
AnyFile m = Unit {0}

abbrev pub OtherThan : List ℕ → List ℕ → Type 0
OtherThan name m = name ≢ m

-- Since then every image has each of these files with its bytes, where every one had at the start.
pub record KeepsFiles {D : Type 0} (told : D → Option Names) (moment : D → ℕ) (since : D → ℕ → Image → Type 0)
    (files : List ℕ → Type 0) (old new : D) : Type 0 where
  pub each : (m bytes : List ℕ) → IsDataName m → files m → Keeps told moment since (λ i. i m ≡ Some bytes) old new

-- Since then every image is sound, where every one was at the start; it is faithful to each world likewise; and each of
-- these files is there as it was, where every image had it.
pub record KeepsImages {D : Type 0} (told : D → Option Names) (moment : D → ℕ) (since : D → ℕ → Image → Type 0)
    (files : List ℕ → Type 0) (old new : D) : Type 0 where
  pub sound : Keeps told moment since IsSound old new
  pub faithful : (w : List WorldRow) → Keeps told moment since (IsFaithful w) old new
  pub stay : KeepsFiles told moment since files old new

-- the world has no file at a URL of this name
abbrev pub IsAbsentIn : List WorldRow → List ℕ → Type 0
IsAbsentIn w name = (url : List ℕ) → IsUrlOf name url → at w url ≡ None
