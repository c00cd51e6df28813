-- Worked rows.
use Rattle.std.specs.Prelude.{◌≡◌, ℕ, true, false, List, [], ◌∷◌, codes, refl, None, Some}
use Rattle.res_base.specs.Builders.{module_of}
use Rattle.res_base.specs.declared.pom.Exclusion.{Exclusion}
use Rattle.exclusion_sets.specs.Exclusions.{is_excluded, is_within, join_of}
use Rattle.exclusion_sets.specs.Minimal.{covering_place, sets_after}
use Rattle.exclusion_sets.specs.declared.excl_set.ExclSet.{ExclSet}

abbrev rule : List ℕ → List ℕ → Exclusion
rule org name = record { org = org; name = name }

abbrev set : List Exclusion → ExclSet
set rules = record { rules = rules }

abbrev x-s : ExclSet
x-s = set (rule (codes "x") (codes "s") ∷ [])

abbrev x-t : ExclSet
x-t = set (rule (codes "x") (codes "t") ∷ [])

abbrev x-any : ExclSet
x-any = set (rule (codes "x") (codes "*") ∷ [])

abbrev all : ExclSet
all = set (rule (codes "*") (codes "*") ∷ [])

pub named : is_excluded x-s (module_of (codes "x") (codes "s")) ≡ true
named = refl

pub other_name : is_excluded x-s (module_of (codes "x") (codes "t")) ≡ false
other_name = refl

pub any_name : is_excluded x-any (module_of (codes "x") (codes "t")) ≡ true
any_name = refl

pub other_org : is_excluded x-any (module_of (codes "y") (codes "t")) ≡ false
other_org = refl

pub everything : is_excluded all (module_of (codes "y") (codes "t")) ≡ true
everything = refl

-- a star stands for names, and no name for a star
pub star_is_no_name : is_excluded x-s (module_of (codes "x") (codes "*")) ≡ false
star_is_no_name = refl

pub named_within_any : is_within x-s x-any ≡ true
named_within_any = refl

pub any_within_named : is_within x-any x-s ≡ false
any_within_named = refl

pub nothing_within : is_within (set []) x-s ≡ true
nothing_within = refl

pub joined : join_of x-s x-t ≡ set (rule (codes "x") (codes "s") ∷ rule (codes "x") (codes "t") ∷ [])
joined = refl

pub covered_rule_left_out : join_of x-any x-t ≡ x-any
covered_rule_left_out = refl

pub wider_set_goes : sets_after (x-any ∷ x-t ∷ all ∷ []) x-s ≡ x-t ∷ x-s ∷ []
wider_set_goes = refl

pub wider_set_stays_out : sets_after (x-t ∷ x-s ∷ []) x-any ≡ x-t ∷ x-s ∷ []
wider_set_stays_out = refl

pub covered_by_the_first_of_two : covering_place (x-t ∷ x-s ∷ []) (join_of x-s x-any) ≡ Some 0
covered_by_the_first_of_two = refl

pub covered_by_none : covering_place (x-t ∷ []) x-s ≡ None
covered_by_none = refl
