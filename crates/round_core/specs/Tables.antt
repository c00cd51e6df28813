-- Modules that are numbered in the order in which they come.
use Rattle.std.specs.BTreeMap.{BTreeMap, get}
use Rattle.std.specs.Prelude.{◌≡◌, ℕ, Bool, Option, List, [], ◌∷◌, ◌++◌, fold, if◌then◌else◌}
use Rattle.std.specs.List.{list_any, position_from}
use Rattle.res_base.specs.Names.{module_cmp, module_eq}
use Rattle.res_base.specs.declared.coord.Module.{Module}

-- the number of a module, if it has one
abbrev pub number_in : List Module → Module → Option ℕ
number_in names m = position_from (module_eq m) 0 names

-- each once, where it comes first
abbrev pub once : {A : Type 0} → (A → A → Bool) → List A → A → List A
once same before x = if list_any (same x) before then before else before ++ x ∷ []

abbrev pub named : List Module → List Module → List Module
named names more = fold (once module_eq) names more

abbrev pub has : List Module → Module → Bool
has names m = list_any (module_eq m) names

-- the table has the number of each module, and no other module
abbrev pub HasNumbers : List Module → BTreeMap Module ℕ → Type 0
HasNumbers names numbers = (m : Module) → get module_cmp numbers m ≡ number_in names m
