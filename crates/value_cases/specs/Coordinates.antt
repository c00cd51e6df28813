-- Coordinates in words.
use Rattle.std.specs.Prelude.{ℕ, List, ◌∷◌, ◌++◌, ◌≡◌, codes}
use Rattle.res_base.specs.declared.coord.Coord.{Coord}
use Rattle.case_words.specs.HexWord.{hex_word}

-- these are the words of the coordinate's org, name and version
pub record HasWords (coord : Coord) (org name version : List ℕ) : Type 0 where
  pub org_word : hex_word coord.«module».org ≡ org
  pub name_word : hex_word coord.«module».name ≡ name
  pub version_word : hex_word coord.version ≡ version

-- what is answered for a text that is this coordinate
abbrev pub coord_line : Coord → List ℕ
coord_line coord = codes "ok " ++ (hex_word coord.«module».org ++ 32 ∷ (hex_word coord.«module».name ++ 32 ∷ hex_word coord.version))
