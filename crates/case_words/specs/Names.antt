-- Modules, coordinates and sets of exclusions in words.
use Rattle.std.specs.Prelude.{ℕ, List, ◌∷◌, ◌++◌, map, codes}
use Rattle.exclusion_sets.specs.declared.excl_set.ExclSet.{ExclSet}
use Rattle.res_base.specs.declared.coord.Coord.{Coord}
use Rattle.res_base.specs.declared.coord.Module.{Module}
use Rattle.res_base.specs.declared.pom.Exclusion.{Exclusion}
use Rattle.case_words.specs.HexWord.{hex_word}
use Rattle.case_words.specs.Words.{joined}

abbrev pub module_word : Module → List ℕ
module_word m = hex_word m.org ++ 58 ∷ hex_word m.name

abbrev pub coord_word : Coord → List ℕ
coord_word coord = hex_word coord.«module».org ++ 58 ∷ (hex_word coord.«module».name ++ 58 ∷ hex_word coord.version)

abbrev pub rule_word : Exclusion → List ℕ
rule_word rule = hex_word rule.org ++ 58 ∷ hex_word rule.name

-- its rules in their order
abbrev pub set_word : ExclSet → List ℕ
set_word set = codes "{" ++ (joined (codes ",") (map rule_word set.rules) ++ codes "}")

-- texts with commas between them
abbrev pub texts_word : List (List ℕ) → List ℕ
texts_word texts = joined (codes ",") (map hex_word texts)
