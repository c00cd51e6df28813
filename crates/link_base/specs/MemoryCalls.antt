-- The calls of an object in memory.
use Rattle.std.specs.Prelude.{ℕ, ◌≡◌, ◌==◌, Bool, List, Result, IsErr, IsErrOf, IsTrue}
use Rattle.std.specs.List.{list_any}
use Rattle.res_base.specs.World.{at}
use Rattle.res_base.specs.Causes.{counted}
use Rattle.link_base.specs.Links.{Rows}
use Rattle.link_base.specs.declared.memory_calls.Calls.{Calls}

-- one world holds at every URL what another does
abbrev pub HoldsAs : Rows → Rows → Type 0
HoldsAs rows w = (url : List ℕ) → at rows url ≡ at w url

-- no call was made yet
abbrev pub no_calls : List ℕ → Calls
no_calls failing = record { failing = failing; made = 0; faults = 0 }

-- one more call was made
abbrev pub with_call : Calls → Calls
with_call calls = record calls { made = counted calls.made }

-- one more call failed
abbrev pub with_fault : Calls → Calls
with_fault calls = record calls { faults = counted calls.faults }

-- the next call is one of those that are to fail
abbrev pub is_to_fail : Calls → Bool
is_to_fail calls = list_any (λ call. call == calls.made) calls.failing

-- a call was made: it is counted, and it answered the fault only where it was to fail; then it gave no other answer but
-- out of memory
pub record IsNextCall {T E : Type 0} (fault : E) (before now : Calls) (result : Result T E) : Type 0 where
  pub failing : now.failing ≡ before.failing
  pub made : now.made ≡ counted before.made
  pub only_listed : IsErrOf result fault → IsTrue (is_to_fail before)
  pub each_listed : IsTrue (is_to_fail before) → IsErr result
