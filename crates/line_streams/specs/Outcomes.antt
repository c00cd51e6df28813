-- How a command ends: what was to be said went out, whole or cut.
use Rattle.std.specs.Prelude.{ℕ, ◌≡◌, ◌⊎◌, List, Option, Result, Ok, Err}
use Rattle.link_base.specs.Sinks.{gained, GainsPrefix}
use Rattle.line_streams.specs.Said.{status_of, out_of, err_of, memory_line}
use Rattle.line_streams.specs.declared.said.Said.{Said}
use Rattle.line_streams.specs.declared.said.Said.TheVariants.{Prints, Tells}
use Rattle.res_base.specs.declared.memory.NoMemory.{NoMemory}

-- what had gone out before the call and has gone out after it, where the sinks tell it
pub record Streams : Type 0 where
  pub out_before : Option (List ℕ)
  pub out_now : Option (List ℕ)
  pub err_before : Option (List ℕ)
  pub err_now : Option (List ℕ)

abbrev pub streams : {O : Type 0} → (O → Option (List ℕ)) → O → O → O → O → Streams
streams written out out' err err' =
    record { out_before = written out; out_now = written out'; err_before = written err; err_now = written err' }

-- all of this was said
pub record IsTold (s : Streams) (said : Said) (status : ℕ) : Type 0 where
  pub status_is : status ≡ status_of said
  pub out : s.out_now ≡ gained s.out_before (out_of said)
  pub err : s.err_now ≡ gained s.err_before (err_of said)

-- there was no memory (5), or a sink failed whose count of faults then rose (6)
abbrev pub IsCut : Type 0 → ℕ → Type 0
IsCut sink_rose status = (status ≡ 5) ⊎ ((status ≡ 6) × sink_rose)

-- some of the text for `out` went out, and then some of the line on memory
pub record IsCutOut (s : Streams) (text : List ℕ) : Type 0 where
  pub out : GainsPrefix s.out_before s.out_now text
  pub err : GainsPrefix s.err_before s.err_now memory_line

-- some of a line for `err` went out, and nothing on `out`
pub record IsCutErr (s : Streams) (line : List ℕ) : Type 0 where
  pub out : s.out_now ≡ s.out_before
  pub err : GainsPrefix s.err_before s.err_now line

abbrev pub IsForOut : Said → Type 0
IsForOut (Prints rendered) = Unit {0}
IsForOut (Tells status line) = ⊥

abbrev pub IsForErr : Said → Type 0
IsForErr (Prints rendered) = ⊥
IsForErr (Tells status line) = Unit {0}

-- this was to be said, and went out whole or cut
pub data IsSaid (s : Streams) (out_rose err_rose : Type 0) (said : Said) (status : ℕ) : Type 0 where
  whole : IsTold s said status → IsSaid s out_rose err_rose said status
  cut_out : IsForOut said → IsCut (out_rose ⊎ err_rose) status → IsCutOut s (out_of said)
      → IsSaid s out_rose err_rose said status
  cut_err : IsForErr said → IsCut err_rose status → IsCutErr s (err_of said) → IsSaid s out_rose err_rose said status

-- there was no memory before there was anything to say
pub record IsLacking (s : Streams) (err_rose : Type 0) (status : ℕ) : Type 0 where
  pub cut : IsCut err_rose status
  pub line : IsCutErr s memory_line

-- what was to be said went out, whole or cut, or there was no memory to make it
abbrev pub IsSaidOf : Streams → Type 0 → Type 0 → Result Said NoMemory → ℕ → Type 0
IsSaidOf s out_rose err_rose (Ok said) status = IsSaid s out_rose err_rose said status
IsSaidOf s out_rose err_rose (Err refusal) status = IsLacking s err_rose status

-- there was something to say, and why; or there was no memory before there was
pub data Ends (Justified : Said → Type 0) (s : Streams) (out_rose err_rose : Type 0) (status : ℕ) : Type 0 where
  says : (said : Said) → Justified said → IsSaid s out_rose err_rose said status
      → Ends Justified s out_rose err_rose status
  no_memory : IsLacking s err_rose status → Ends Justified s out_rose err_rose status
