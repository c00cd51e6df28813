-- Why a table refuses a row.
use Rattle.std.specs.Prelude.{◌≡◌, ℕ, true, false, List, length}
use Rattle.case_table.specs.declared.table.AddErr.{AddErr}
use Rattle.case_table.specs.declared.table.AddErr.TheVariants.{NotSorted, NoMemory}
use Rattle.case_table.specs.Rows.{may_follow}

-- out of order, with the number of rows; memory runs out only for a row in order
abbrev pub IsRefusal : {T : Type 0} → List (List ℕ × T) → List ℕ → AddErr → Type 0
IsRefusal rows name (NotSorted count) = (count ≡ length rows) × (may_follow rows name ≡ false)
IsRefusal rows name NoMemory = may_follow rows name ≡ true
