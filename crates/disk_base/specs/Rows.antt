-- What calls make of names, and what a crash may leave, row by row.
use Rattle.std.specs.Prelude.{◌≡◌, ℕ, Option, Some, None, List, [], ◌∷◌, codes, refl, false}
use Rattle.std.proofs.Common.{arith, inl, inr}
use Rattle.disk_base.specs.Crashes.{crashed, picked, was_bound}
use Rattle.disk_base.specs.Images.{MayShow}
use Rattle.disk_base.specs.Names.{Names, empty, no_names, read_name, run, whole}
use Rattle.disk_base.specs.declared.contents.Bindings.{Bindings}
use Rattle.disk_base.specs.declared.contents.Content.{Content}
use Rattle.disk_base.specs.declared.steps.DiskStep.{DiskStep}
use Rattle.disk_base.specs.declared.steps.DiskStep.TheVariants.{Start, Append, Sync, Rename, Remove, SyncNames}

abbrev a : List ℕ
a = codes "a"

abbrev b : List ℕ
b = codes "b"

abbrev abc : List ℕ
abc = codes "abc"

-- a file is written, and isn't synced
abbrev written : List DiskStep
written = Start a ∷ Append a abc ∷ []

abbrev synced : List DiskStep
synced = Start a ∷ Append a abc ∷ Sync a ∷ []

abbrev moved : List DiskStep
moved = Start a ∷ Append a abc ∷ Sync a ∷ Rename a b ∷ []

abbrev settled_names : List DiskStep
settled_names = Start a ∷ Append a abc ∷ Sync a ∷ Rename a b ∷ SyncNames ∷ []

written_row : read_name (run written no_names) a ≡ Some abc
written_row = refl

loose_row : run written no_names a ≡ record { before = None ∷ []; present = Some (record { bytes = abc; firm = 0 }) }
loose_row = refl

firm_row : run synced no_names a ≡ record { before = None ∷ []; present = Some (whole abc) }
firm_row = refl

-- the old name may come back, and the new one be lost, until the names are synced
moved_from_row : run moved no_names a ≡ record { before = None ∷ Some (whole abc) ∷ []; present = None }
moved_from_row = refl

moved_to_row : run moved no_names b ≡ record { before = None ∷ []; present = Some (whole abc) }
moved_to_row = refl

settled_from_row : run settled_names no_names a ≡ record { before = []; present = None }
settled_from_row = refl

settled_to_row : run settled_names no_names b ≡ record { before = []; present = Some (whole abc) }
settled_to_row = refl

-- a name that is renamed to itself stays
same_name_row : run (Start a ∷ Rename a a ∷ []) no_names a ≡ run (Start a ∷ []) no_names a
same_name_row = refl

-- what isn't synced may be any bytes of any number
any_bytes_row : MayShow (run written no_names a) (Some (codes "xyzzy"))
any_bytes_row = inl (codes "xyzzy", refl, λ le. absurd (omega (arith, le)))

lost_row : MayShow (run synced no_names a) None
lost_row = inr (inl refl)

-- ---- numbers pick: the binding at the number's rest, as written where the quotient is even
first_binding_row : picked 0 (run written no_names a) ≡ None
first_binding_row = refl

as_written_row : picked 1 (run written no_names a) ≡ Some abc
as_written_row = refl

zero_bytes_row : picked 3 (run written no_names a) ≡ Some (0 ∷ 0 ∷ 0 ∷ [])
zero_bytes_row = refl

firm_bytes_row : picked 3 (run synced no_names a) ≡ Some abc
firm_bytes_row = refl

even_row : picked 5 (run written no_names a) ≡ Some abc
even_row = refl

not_held_row : was_bound (run settled_names no_names a) ≡ false
not_held_row = refl

-- the second name has no number, and so its first binding
two_names_row : crashed (2 ∷ []) 0 (run moved no_names) (a ∷ b ∷ []) b ≡ None
two_names_row = refl

first_name_row : crashed (1 ∷ []) 0 (run moved no_names) (a ∷ b ∷ []) a ≡ Some abc
first_name_row = refl
