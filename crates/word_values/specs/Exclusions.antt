-- Exclusions in words.
use Rattle.std.specs.Prelude.{ℕ, Bool, List, Option, Some, None, ◌&&◌, ◌||◌, ◌==◌, if◌then◌else◌, codes, length, nat_lt}
use Rattle.std.specs.List.{after_first, before_first, position_or_len}
use Rattle.ascii_bytes.specs.Signs.{colon}
use Rattle.res_base.specs.Names.{text_eq}
use Rattle.res_base.specs.Plain.{is_plain_name, is_plain_org}
use Rattle.res_base.specs.declared.pom.Exclusion.{Exclusion}

abbrev pub is_excluded_org : List ℕ → Bool
is_excluded_org text = text_eq text (codes "*") || is_plain_org text

abbrev pub is_excluded_name : List ℕ → Bool
is_excluded_name text = text_eq text (codes "*") || is_plain_name text

abbrev pub exclusion_of : Option (List ℕ × List ℕ) → Option Exclusion
exclusion_of None = None
exclusion_of (Some parts) =
    if is_excluded_org parts.0 && is_excluded_name parts.1 then Some (record { org = parts.0; name = parts.1 }) else None

abbrev pub is_colon : ℕ → Bool
is_colon byte = byte == colon

-- what stands before and after the first colon
abbrev pub at_colon : List ℕ → Option (List ℕ × List ℕ)
at_colon text =
    if nat_lt (position_or_len is_colon text) (length text)
    then Some (before_first is_colon text, after_first is_colon text) else None

-- an org and a name with a colon between them, each plain or `*`
abbrev pub exclusion_in : List Exclusion → List ℕ → Bool → Option Exclusion
exclusion_in before text is_last = exclusion_of (at_colon text)
