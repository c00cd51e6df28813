-- What names stand for in the texts of a project.
use Rattle.std.specs.Prelude.{ℕ, Bool, true, false, not, ◌||◌, ◌==◌, Option, None, Some, List, [], ◌∷◌, ◌++◌, codes, filter, map}
use Rattle.std.specs.List.{flat_map, starts_with}
use Rattle.res_base.specs.declared.coord.Coord.{Coord}
use Rattle.res_base.specs.declared.pom.PomRecord.{PomRecord}
use Rattle.property_text.specs.Filled.{filled}
use Rattle.property_text.specs.Values.{value_in}
use Rattle.row_lists.specs.RowLists.{or_text}
use Rattle.pom_build.specs.Lines.{projects_of}
use Rattle.pom_build.specs.Projects.{FoundProject}
use Rattle.pom_build.specs.declared.line.Line.{Line}

-- a name and its value
abbrev pub Pair : Type 0
Pair = List ℕ × List ℕ

abbrev pub part_of : (Coord → List ℕ) → Option Coord → List ℕ
part_of part None = []
part_of part (Some c) = part c

abbrev pub org_part : Coord → List ℕ
org_part c = c.«module».org

abbrev pub version_part : Coord → List ℕ
version_part c = c.version

-- the coordinates of a record, with the parent's org and version where it has none
abbrev pub short_fields : PomRecord → List Pair
short_fields pom =
    (codes "groupId", or_text pom.org (part_of org_part pom.parent))
    ∷ (codes "artifactId", pom.name)
    ∷ (codes "version", or_text pom.version (part_of version_part pom.parent))
    ∷ []

abbrev pub parent_fields : Option Coord → List Pair
parent_fields None = []
parent_fields (Some parent) = (codes "parent.groupId", parent.«module».org) ∷ (codes "parent.artifactId", parent.«module».name) ∷ (codes "parent.version", parent.version) ∷ []

abbrev pub fields : PomRecord → List Pair
fields pom = short_fields pom ++ (codes "packaging", pom.packaging) ∷ parent_fields pom.parent

-- a field that is absent has no value
abbrev pub is_present : Pair → Bool
is_present (name, []) = false
is_present (name, byte ∷ value) = true

abbrev pub under : List ℕ → List Pair → List Pair
under prefix pairs = map (λ pair. (prefix ++ pair.0, pair.1)) pairs

-- whether only a field may stand for the name
abbrev pub is_field_name : List ℕ → Bool
is_field_name name = starts_with ◌==◌ name (codes "project.") || starts_with ◌==◌ name (codes "pom.")

abbrev pub properties_in : FoundProject → List Pair
properties_in project = map (λ property. (property.name, property.value)) project.pom.properties

-- the fields of the project's own record, under `project.` and `pom.`; the properties, the nearest first; the coordinates again
abbrev pub values_in : Line → List Pair
values_in line =
    filter is_present (under (codes "project.") (fields line.own.pom) ++ under (codes "pom.") (fields line.own.pom))
    ++ filter (λ pair. not (is_field_name pair.0)) (flat_map properties_in (projects_of line))
    ++ filter is_present (short_fields line.own.pom)

unfoldable pub fill_in : Line → List ℕ → List ℕ
fill_in line = filled (value_in (values_in line))
