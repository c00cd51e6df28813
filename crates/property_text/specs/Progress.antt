-- A text that is being filled.
use Rattle.std.specs.Prelude.{◌≡◌, ℕ, ◌+◌, ◌<◌, ◌≤◌, Bool, true, false, ⊤, Option, None, Some, List, ◌++◌, length}
use Rattle.property_text.specs.Filled.{Filling, prefixed}
use Rattle.property_text.specs.declared.fill.TheConstants.{SIZE}
use Rattle.property_text.specs.declared.fill.Progress.{Progress}

abbrev pub filling_of : Progress → Filling
filling_of progress = record { text = progress.text; left = progress.left }

-- the text is at the end, or would be too long
abbrev pub IsAppended : Bool → Progress → List ℕ → Progress → Type 0
IsAppended true before more after = (after.text ≡ before.text ++ more) × (after.left ≡ before.left) × (length after.text ≤ SIZE)
IsAppended false before more after = SIZE < length before.text + length more

-- a limit is passed
abbrev pub IsPast : Option Filling → Type 0
IsPast None = ⊤
IsPast (Some filling) = SIZE < length filling.text

-- what is to be put at the end is there, within the limits, or some limit is passed with it
abbrev pub IsOutcome : Bool → Filling → Option Filling → Filling → Type 0
IsOutcome true before more after = (prefixed before.text more ≡ Some after) × (length after.text ≤ SIZE)
IsOutcome false before more after = IsPast (prefixed before.text more)
