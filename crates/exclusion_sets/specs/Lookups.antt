-- A rule is covered exactly by one of four: its org or `*`, with its name or `*`.
use Rattle.std.specs.BTreeSet.{BTreeSet, contains}
use Rattle.std.specs.List.{list_any}
use Rattle.std.specs.Prelude.{◌≡◌, ℕ, Bool, not, ◌&&◌, ◌||◌, List, codes, filter}
use Rattle.res_base.specs.Names.{text_eq, module_cmp}
use Rattle.res_base.specs.declared.coord.Module.{Module}
use Rattle.res_base.specs.declared.pom.Exclusion.{Exclusion}

-- some rule has just these parts
abbrev pub has_rule : List Exclusion → List ℕ → List ℕ → Bool
has_rule rules org name = list_any (λ rule. text_eq rule.org org && text_eq rule.name name) rules

-- one of the four stands among rules that a test knows
abbrev pub is_found : (List ℕ → List ℕ → Bool) → List ℕ → List ℕ → Bool
is_found has org name =
    has org name || (has org (codes "*") || (has (codes "*") (codes "*") || has (codes "*") name))

-- whether a table has a rule, which it keeps as a module with the rule's parts
abbrev pub table_has : BTreeSet Module → List ℕ → List ℕ → Bool
table_has table org name = contains module_cmp table (record { org = org; name = name })

-- the rules that the table does not find covered
abbrev pub unfound : BTreeSet Module → List Exclusion → List Exclusion
unfound table rules = filter (λ rule. not (is_found (table_has table) rule.org rule.name)) rules

-- the table has these rules, and no other
abbrev pub HasRules : List Exclusion → BTreeSet Module → Type 0
HasRules rules table = (org name : List ℕ) → table_has table org name ≡ has_rule rules org name
