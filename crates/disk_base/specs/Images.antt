-- What a crash may leave.
use Rattle.std.specs.Prelude.{ℕ, ◌≡◌, ◌≤◌, ◌⊎◌, List, [], ◌∷◌, ◌++◌, Option, Some, None, length, take}
use Rattle.disk_base.specs.Names.{Names}
use Rattle.disk_base.specs.declared.contents.Content.{Content}
use Rattle.disk_base.specs.declared.contents.Bindings.{Bindings}

-- what each name holds, if it is bound
abbrev pub Image : Type 0
Image = List ℕ → Option (List ℕ)

-- an unbound name shows nothing; a content shows its firm bytes, and any bytes behind them where not all of it is firm
abbrev pub Shows : Option Content → Option (List ℕ) → Type 0
Shows None o = o ≡ None
Shows (Some c) o = (tail : List ℕ) × (o ≡ Some (take c.firm c.bytes ++ tail)) × (length c.bytes ≤ c.firm → tail ≡ [])

abbrev pub ShowsOne : List (Option Content) → Option (List ℕ) → Type 0
ShowsOne [] o = ⊥
ShowsOne (b ∷ bs) o = Shows b o ⊎ ShowsOne bs o

-- a name shows one of the bindings that it had since the names were synced
abbrev pub MayShow : Bindings → Option (List ℕ) → Type 0
MayShow b o = Shows b.present o ⊎ ShowsOne b.before o

-- each name by itself
abbrev pub IsImage : Names → Image → Type 0
IsImage s i = (n : List ℕ) → MayShow (s n) (i n)

-- where the disk tells its names
abbrev pub IsImageOf : Option Names → Image → Type 0
IsImageOf None i = ⊥
IsImageOf (Some s) i = IsImage s i
