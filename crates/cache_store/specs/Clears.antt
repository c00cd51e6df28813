-- Calls that take a file and its absence record away, where one of them is there.
use Rattle.std.specs.Prelude.{ℕ, ◌≡◌, Bool, false, List, Option, Some, None, OnOk, Result}
use Rattle.disk_base.specs.Images.{Image}
use Rattle.disk_base.specs.Names.{Names}
use Rattle.disk_base.specs.Runs.{Done, Ran}
use Rattle.disk_base.specs.declared.steps.DiskStep.{DiskStep}
use Rattle.cache_store.specs.declared.errors.StoreErr.{StoreErr}

-- the name is unbound, where the disk tells that
abbrev pub IsUnboundIn : Option Names → List ℕ → Type 0
IsUnboundIn told name = (s : Names) → told ≡ Some s → (s name).present ≡ None

-- By whether the file or its absence record was there, these calls ran; at Ok all of them.
pub record Clears {D T : Type 0} (told : D → Option Names) (moment : D → ℕ) (since : D → ℕ → Image → Type 0)
    (steps : Bool → List DiskStep) (name gone : List ℕ) (old new : D) (result : Result T StoreErr) : Type 0 where
  pub there : Bool
  pub neither : there ≡ false → IsUnboundIn (told old) name × IsUnboundIn (told old) gone
  pub ran : Ran told moment since (steps there) old new
  pub done : OnOk result (Done told (steps there) old new)
