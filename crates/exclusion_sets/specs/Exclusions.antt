-- What exclusions leave out, as the Maven POM reference has them, with `*` for every org or name.
use Rattle.std.specs.Prelude.{ℕ, Bool, not, ◌&&◌, ◌||◌, List, [], ◌++◌, codes, filter}
use Rattle.std.specs.List.{list_any, list_all}
use Rattle.res_base.specs.Names.{text_eq}
use Rattle.res_base.specs.declared.coord.Module.{Module}
use Rattle.res_base.specs.declared.pom.Exclusion.{Exclusion}
use Rattle.exclusion_sets.specs.declared.excl_set.ExclSet.{ExclSet}

-- `*` stands for every text, and another text for itself
abbrev pub stands_for : List ℕ → List ℕ → Bool
stands_for pattern text = text_eq pattern (codes "*") || text_eq pattern text

-- both parts of the rule stand for these
abbrev pub covers : Exclusion → List ℕ → List ℕ → Bool
covers rule org name = stands_for rule.org org && stands_for rule.name name

abbrev pub some_covers : List Exclusion → List ℕ → List ℕ → Bool
some_covers rules org name = list_any (λ rule. covers rule org name) rules

-- no rules, which leave out nothing
abbrev pub no_rules : ExclSet
no_rules = record { rules = [] }

-- some rule matches the module
abbrev pub is_excluded : ExclSet → Module → Bool
is_excluded set m = some_covers set.rules m.org m.name

-- some rule matches whatever this one matches
abbrev pub is_covered : ExclSet → Exclusion → Bool
is_covered set rule = some_covers set.rules rule.org rule.name

-- each rule is covered by one rule of the other set
abbrev pub is_within : ExclSet → ExclSet → Bool
is_within set other = list_all (is_covered other) set.rules

-- the rules that a set does not cover
abbrev pub uncovered : ExclSet → List Exclusion → List Exclusion
uncovered set rules = filter (λ rule. not (is_covered set rule)) rules

-- the rules of the first, and those of the second that it does not cover
abbrev pub join_of : ExclSet → ExclSet → ExclSet
join_of a b = record { rules = a.rules ++ uncovered a b.rules }
