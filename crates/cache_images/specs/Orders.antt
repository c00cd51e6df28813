-- Orders of calls that are wrong.
use Rattle.std.specs.Prelude.{ℕ, ◌≢◌, ◌++◌, List, [], ◌∷◌}
use Rattle.cache_images.specs.Along.{Along}
use Rattle.cache_images.specs.Places.{IsDataName, part_name, record_name, record_part_name}
use Rattle.cache_images.specs.Sequences.{put_steps}
use Rattle.cache_images.specs.Sound.{AnyLine, HasItsRecord}
use Rattle.disk_base.specs.Names.{no_names}
use Rattle.disk_base.specs.declared.steps.DiskStep.{DiskStep}
use Rattle.disk_base.specs.declared.steps.DiskStep.TheVariants.{Append, Rename, Start}

-- a file gets its name before its record stands
abbrev pub early_steps : ℕ → List ℕ → List ℕ → List DiskStep
early_steps k n bytes = put_steps (part_name k) n bytes

-- its record stands, and a file gets its name before it is synced
abbrev pub loose_steps : ℕ → List ℕ → List ℕ → List ℕ → List DiskStep
loose_steps k n line bytes =
    put_steps (record_part_name k) (record_name n) line
    ++ (Start (part_name k) ∷ Append (part_name k) bytes ∷ Rename (part_name k) n ∷ [])

-- from an empty disk on some image of such calls is not sound
pub record AreUnsound : Type 0 where
  pub early : (k : ℕ) (n bytes : List ℕ) → IsDataName n → Along HasItsRecord AnyLine (early_steps k n bytes) no_names → ⊥
  pub loose : (k : ℕ) (n line bytes : List ℕ) → IsDataName n → bytes ≢ []
      → Along HasItsRecord AnyLine (loose_steps k n line bytes) no_names → ⊥
