-- What a project file says: the fields of the tree of its text, after the Maven POM reference.
use Rattle.std.specs.Prelude.{ℕ, Bool, if◌then◌else◌, List, [], ◌∷◌, ◌++◌, length, map, fold, Option, Some, None, option_map, ◌==◌, codes}
use Rattle.std.specs.List.{list_any}
use Rattle.std.specs.Str.{bytes_eq}
use Rattle.pom_grammar.specs.declared.tree.Tree.{Tree, out-Tree}
use Rattle.res_base.specs.declared.coord.Module.{Module}
use Rattle.res_base.specs.declared.coord.Coord.{Coord}
use Rattle.res_base.specs.declared.pom.Exclusion.{Exclusion}
use Rattle.res_base.specs.declared.pom.DepRecord.{DepRecord}
use Rattle.res_base.specs.declared.pom.Property.{Property}
use Rattle.res_base.specs.declared.pom.Moved.{Moved}
use Rattle.res_base.specs.declared.pom.PomRecord.{PomRecord}
use Rattle.res_base.specs.declared.reading.Field.{Field}
use Rattle.res_base.specs.declared.reading.Field.TheVariants.{ParentOrg, ParentName, ParentVersion, Org, Name, Version}
use Rattle.pom_record.specs.Fields.{field, named, text_of, children_of}

abbrev pub module_in : List Tree → Module
module_in children = record { org = text_of (codes "groupId") children; name = text_of (codes "artifactId") children }

abbrev pub coord_in : Tree → Coord
coord_in tree =
    let children = (out-Tree tree).children in
    record { «module» = module_in children; version = text_of (codes "version") children }

abbrev pub exclusion : Tree → Exclusion
exclusion tree =
    let children = (out-Tree tree).children in
    record { org = text_of (codes "groupId") children; name = text_of (codes "artifactId") children }

-- a dependency without org or name is kept
abbrev pub dependency : Tree → DepRecord
dependency tree =
    let children = (out-Tree tree).children in
    record {
      «module» = module_in children;
      version = text_of (codes "version") children;
      kind = text_of (codes "type") children;
      classifier = text_of (codes "classifier") children;
      scope = text_of (codes "scope") children;
      optional = text_of (codes "optional") children;
      exclusions = map exclusion (named (codes "exclusion") (children_of (codes "exclusions") children));
    }

-- the rows of the field `dependencies`
abbrev pub dependencies : List Tree → List DepRecord
dependencies children = map dependency (named (codes "dependency") (children_of (codes "dependencies") children))

abbrev pub property : Tree → Property
property tree = record { name = (out-Tree tree).name; value = (out-Tree tree).text }

-- the first of each name counts: one more stands last, unless its name is there
abbrev pub has_name : List ℕ → List Property → Bool
has_name name properties = list_any (λ p. bytes_eq name p.name) properties

abbrev pub put_property : List Property → Property → List Property
put_property properties p = if has_name p.name properties then properties else properties ++ p ∷ []

abbrev pub properties : List Tree → List Property
properties children = fold put_property [] (map property children)

abbrev pub moved : Tree → Moved
moved tree =
    let children = (out-Tree tree).children in
    record {
      org = text_of (codes "groupId") children;
      name = text_of (codes "artifactId") children;
      version =
          text_of (codes "version") children;
    }

-- an absent packaging is `jar`
abbrev pub or_jar : List ℕ → List ℕ
or_jar text = if length text == 0 then codes "jar" else text

abbrev pub record_in : List Tree → PomRecord
record_in children =
    record {
      parent = option_map coord_in (field (codes "parent") children);
      org = text_of (codes "groupId") children;
      name = text_of (codes "artifactId") children;
      version = text_of (codes "version") children;
      packaging = or_jar (text_of (codes "packaging") children);
      properties = properties (children_of (codes "properties") children);
      deps = dependencies children;
      managed = dependencies (children_of (codes "dependencyManagement") children);
      moved = option_map moved (field (codes "relocation") (children_of (codes "distributionManagement") children));
    }

-- the first of these coordinates whose text is absent, that is, empty
abbrev pub first_absent : List (List ℕ × Field) → Option Field
first_absent [] = None
first_absent (row ∷ rows) = if length row.0 == 0 then Some row.1 else first_absent rows

-- the coordinates that must stand, in the order in which they are looked at: those of the parent where there is one, which lends its org and version
abbrev pub required : Option Coord → PomRecord → List (List ℕ × Field)
required None pom = (pom.org, Org) ∷ (pom.name, Name) ∷ (pom.version, Version) ∷ []
required (Some parent) pom =
    (parent.«module».org, ParentOrg) ∷ (parent.«module».name, ParentName) ∷ (parent.version, ParentVersion) ∷
    (pom.name, Name) ∷ []

abbrev pub absent : PomRecord → Option Field
absent pom = first_absent (required pom.parent pom)
