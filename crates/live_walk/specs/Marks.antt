-- Marks of sets of exclusions. Where a set is within another one, its own mask fits the other's cover: so of most pairs
-- that are not, two numbers say so.
use Rattle.std.specs.Prelude.{ℕ, ◌+◌, ◌*◌, ◌-◌, ◌%◌, ◌^◌, Bool, ◌||◌, List, codes, fold, if◌then◌else◌}
use Rattle.std.specs.Int.Bits.{bit_and}
use Rattle.res_base.specs.Names.{text_eq}
use Rattle.res_base.specs.declared.pom.Exclusion.{Exclusion}

-- a sum that goes on over the bytes of a text
abbrev pub added_text : ℕ → List ℕ → ℕ
added_text start text = fold (λ sum byte. sum % 16777216 * 31 + byte) start text

-- all bits but one
abbrev pub mask_for : List ℕ → List ℕ → ℕ
mask_for org name = 18446744073709551615 - 1 * 2 ^ (added_text (added_text 7 org) name % 61) % 2 ^ 64

abbrev pub mask_of : Exclusion → ℕ
mask_of rule = mask_for rule.org rule.name

-- the rule may cover other rules
abbrev pub is_wide : Exclusion → Bool
is_wide rule = text_eq rule.org (codes "*") || text_eq rule.name (codes "*")

abbrev pub cover_of : Exclusion → ℕ
cover_of rule = if is_wide rule then 0 else mask_of rule

-- the bits that all rules leave
abbrev pub left_by : (Exclusion → ℕ) → ℕ → List Exclusion → ℕ
left_by mask start rules = fold (λ sum rule. bit_and sum (mask rule)) start rules

abbrev pub own_mask : List Exclusion → ℕ
own_mask rules = left_by mask_of 18446744073709551615 rules

abbrev pub cover_mask : List Exclusion → ℕ
cover_mask rules = left_by cover_of 18446744073709551615 rules
