-- The values of names, put one by one.
use Rattle.std.specs.Prelude.{ℕ, not, Option, None, Some, List, [], ◌∷◌, codes, fold, if◌then◌else◌}
use Rattle.res_base.specs.declared.pom.PomRecord.{PomRecord}
use Rattle.res_base.specs.declared.coord.Coord.{Coord}
use Rattle.property_text.specs.Values.{with_value}
use Rattle.pom_build.specs.Lines.{projects_of}
use Rattle.row_lists.specs.RowLists.{or_text}
use Rattle.pom_build.specs.Names.{Pair, fields, is_field_name, is_present, org_part, part_of, properties_in, short_fields, under, version_part}
use Rattle.pom_build.specs.Projects.{FoundProject}
use Rattle.pom_build.specs.declared.line.Line.{Line}

abbrev pub put_field : List Pair → Pair → List Pair
put_field values pair = if is_present pair then with_value values pair.0 pair.1 else values

abbrev pub put_fields : List Pair → List Pair → List Pair
put_fields values pairs = fold put_field values pairs

unfoldable pub put_coordinates : List Pair → List ℕ → PomRecord → List Pair
put_coordinates values prefix pom = put_fields values (under prefix (short_fields pom))

-- the coordinates of a record, under these names
abbrev pub coordinates_under : List ℕ → List ℕ → List ℕ → PomRecord → List Pair
coordinates_under org name version pom =
    (org, or_text pom.org (part_of org_part pom.parent))
    ∷ (name, pom.name)
    ∷ (version, or_text pom.version (part_of version_part pom.parent))
    ∷ []

-- those of a parent
abbrev pub parent_under : List ℕ → List ℕ → List ℕ → Option Coord → List Pair
parent_under org name version None = []
parent_under org name version (Some parent) =
    (org, parent.«module».org) ∷ (name, parent.«module».name) ∷ (version, parent.version) ∷ []

unfoldable pub put_record : List Pair → List ℕ → PomRecord → List Pair
put_record values prefix pom = put_fields values (under prefix (fields pom))

abbrev pub put_property : List Pair → Pair → List Pair
put_property values pair = if not (is_field_name pair.0) then with_value values pair.0 pair.1 else values

abbrev pub put_properties : List Pair → List Pair → List Pair
put_properties values pairs = fold put_property values pairs

abbrev pub put_project : List Pair → FoundProject → List Pair
put_project values project = put_properties values (properties_in project)

abbrev pub put_projects : List Pair → List FoundProject → List Pair
put_projects values projects = fold put_project values projects

abbrev pub put_all : Line → List Pair
put_all line =
    put_coordinates (put_projects (put_record (put_record [] (codes "project.") line.own.pom) (codes "pom.") line.own.pom) (projects_of line)) [] line.own.pom
