-- Counts of faults, and what a fault rests on.
use Rattle.std.specs.Prelude.{ℕ, ◌≡◌, ◌+◌, ◌-◌, ◌^◌, ◌≤◌, min, max, Result, IsErrOf}

-- the greatest value of a count
abbrev pub count_end : ℕ
count_end = 2 ^ 64 - 1

-- a count after one more, which stays at its greatest value
abbrev pub counted : ℕ → ℕ
counted n = max n (min (n + 1) count_end)

-- a count rose, or stands at its greatest value
abbrev pub Rose : ℕ → ℕ → Type 0
Rose before now = min (before + 1) count_end ≤ now

-- A count of faults in a call: the fault is answered only where the count rose, and otherwise the count is as before.
pub record HasCause {T E : Type 0} (fault : E) (before now : ℕ) (result : Result T E) : Type 0 where
  pub later : before ≤ now
  pub failed : IsErrOf result fault → Rose before now
  pub quiet : ¬ IsErrOf result fault → now ≡ before
