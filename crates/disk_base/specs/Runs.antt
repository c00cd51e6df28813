-- A run of calls, cut short or not, and what a crash in it may leave.
use Rattle.std.specs.Prelude.{ℕ, ◌≡◌, ◌≤◌, ◌⊎◌, List, [], ◌∷◌, Option, Some, None}
use Rattle.disk_base.specs.Names.{Names, after, told_after}
use Rattle.disk_base.specs.Images.{Image, IsImage, IsImageOf}
use Rattle.disk_base.specs.declared.steps.DiskStep.{DiskStep}

-- the names before one of these calls, or after them all
abbrev pub IsAlong : List DiskStep → Names → Names → Type 0
IsAlong [] s r = r ≡ s
IsAlong (step ∷ steps) s r = (r ≡ s) ⊎ IsAlong steps (after step s) r

-- an image of the names before one of these calls, or after them all
abbrev pub IsImageAlong : List DiskStep → Names → Image → Type 0
IsImageAlong [] s i = IsImage s i
IsImageAlong (step ∷ steps) s i = IsImage s i ⊎ IsImageAlong steps (after step s) i

abbrev pub IsToldAlong : List DiskStep → Option Names → Option Names → Type 0
IsToldAlong steps None told = told ≡ None
IsToldAlong steps (Some s) told = (r : Names) × (told ≡ Some r) × IsAlong steps s r

abbrev pub IsToldImageAlong : List DiskStep → Option Names → Image → Type 0
IsToldImageAlong steps None i = ⊥
IsToldImageAlong steps (Some s) i = IsImageAlong steps s i

-- Of these calls the first so many stand, and a crash since the start leaves an image of the names after some of them.
pub record Ran {D : Type 0} (told : D → Option Names) (moment : D → ℕ) (since : D → ℕ → Image → Type 0)
    (steps : List DiskStep) (old new : D) : Type 0 where
  pub later : moment old ≤ moment new
  pub stands : IsToldAlong steps (told old) (told new)
  pub each : (t : ℕ) (i : Image) → t ≤ moment old → since new t i → since old t i ⊎ IsToldImageAlong steps (told old) i

-- All of these calls stand.
pub record Done {D : Type 0} (told : D → Option Names) (steps : List DiskStep) (old new : D) : Type 0 where
  pub names : told new ≡ told_after steps (told old)

-- A crash since then leaves what has P, if it did before.
pub record Keeps {D : Type 0} (told : D → Option Names) (moment : D → ℕ) (since : D → ℕ → Image → Type 0)
    (P : Image → Type 0) (old new : D) : Type 0 where
  pub later : moment old ≤ moment new
  pub now : ((i : Image) → IsImageOf (told old) i → P i) → (i : Image) → IsImageOf (told new) i → P i
  pub each : ((i : Image) → IsImageOf (told old) i → P i) → (t : ℕ) (i : Image) → t ≤ moment old
      → since new t i → since old t i ⊎ P i

-- every image before one of these calls, or after them all, has P
abbrev pub AllAlong : (Image → Type 0) → List DiskStep → Names → Type 0
AllAlong P [] s = (i : Image) → IsImage s i → P i
AllAlong P (step ∷ steps) s = ((i : Image) → IsImage s i → P i) × AllAlong P steps (after step s)
