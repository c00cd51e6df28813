-- The names of the fields that are read, each with its number, which is its place.
use Rattle.std.specs.Prelude.{ℕ, List, [], ◌∷◌, codes}

abbrev pub name_rows : List (List ℕ × ℕ)
name_rows =
    (codes "artifactId", 0) ∷ (codes "classifier", 1) ∷ (codes "dependencies", 2) ∷ (codes "dependency", 3)
    ∷ (codes "dependencyManagement", 4) ∷ (codes "distributionManagement", 5) ∷ (codes "exclusion", 6) ∷
    (codes "exclusions", 7)
    ∷ (codes "groupId", 8) ∷ (codes "optional", 9) ∷ (codes "packaging", 10) ∷ (codes "parent", 11) ∷
    (codes "project", 12)
    ∷ (codes "properties", 13) ∷ (codes "relocation", 14) ∷ (codes "scope", 15) ∷ (codes "type", 16) ∷
    (codes "version", 17) ∷ []
