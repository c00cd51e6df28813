-- Sets none of which is within another, and how one is added.
use Rattle.std.specs.Prelude.{◌≡◌, ℕ, Bool, false, not, Option, None, Some, List, [], ◌∷◌, ◌++◌, filter, position, AllPairs}
use Rattle.std.specs.List.{list_any}
use Rattle.res_base.specs.declared.coord.Module.{Module}
use Rattle.exclusion_sets.specs.Exclusions.{is_excluded, is_within}
use Rattle.exclusion_sets.specs.declared.excl_set.ExclSet.{ExclSet}

-- no set is within another one, whichever stands first
abbrev pub AreApart : ExclSet → ExclSet → Type 0
AreApart a b = (is_within a b ≡ false) × (is_within b a ≡ false)

abbrev pub IsMinimal : List ExclSet → Type 0
IsMinimal sets = AllPairs AreApart sets

-- some set is within this one
abbrev pub has_within : List ExclSet → ExclSet → Bool
has_within sets set = list_any (λ kept. is_within kept set) sets

-- some set does not exclude the module
abbrev pub is_passed : List ExclSet → Module → Bool
is_passed sets m = list_any (λ kept. not (is_excluded kept m)) sets

-- the place of the first set that is within a new one
abbrev pub covering_place : List ExclSet → ExclSet → Option ℕ
covering_place sets set = position (λ kept. is_within kept set) sets

-- the sets that the new one is not within, and then the new one
abbrev pub without_covered : List ExclSet → ExclSet → List ExclSet
without_covered sets set = filter (λ kept. not (is_within set kept)) sets ++ set ∷ []

abbrev pub unless_covered : Option ℕ → List ExclSet → ExclSet → List ExclSet
unless_covered None sets set = without_covered sets set
unless_covered (Some place) sets set = sets

-- nothing changes where some set is within the new one
abbrev pub sets_after : List ExclSet → ExclSet → List ExclSet
sets_after sets set = unless_covered (covering_place sets set) sets set
