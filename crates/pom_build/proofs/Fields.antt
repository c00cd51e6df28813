-- The fields of a record, put in one by one.
use Rattle.std.proofs.Common.{◌≡◌, Option, None, Some, List, [], refl, codes, ap}
use Rattle.res_base.specs.declared.coord.Coord.{Coord}
use Rattle.res_base.specs.declared.pom.PomRecord.{PomRecord}
use Rattle.pom_build.specs.Names.{Pair, parent_fields, under}
use Rattle.pom_build.specs.Puts.{coordinates_under, parent_under, put_coordinates, put_field, put_fields, put_record}

project_parent : (parent : Option Coord)
    → parent_under (codes "project.parent.groupId") (codes "project.parent.artifactId") (codes "project.parent.version") parent
    ≡ under (codes "project.") (parent_fields parent)
project_parent None = refl
project_parent (Some parent) = refl

pom_parent : (parent : Option Coord)
    → parent_under (codes "pom.parent.groupId") (codes "pom.parent.artifactId") (codes "pom.parent.version") parent
    ≡ under (codes "pom.") (parent_fields parent)
pom_parent None = refl
pom_parent (Some parent) = refl

pub project_fields : (values : List Pair) (pom : PomRecord)
    → put_fields (put_field (put_fields values (coordinates_under (codes "project.groupId") (codes "project.artifactId") (codes "project.version") pom)) (codes "project.packaging", pom.packaging))
    (parent_under (codes "project.parent.groupId") (codes "project.parent.artifactId") (codes "project.parent.version") pom.parent)
    ≡ put_record values (codes "project.") pom
unfolding put_record
project_fields values pom =
    ap (put_fields (put_field (put_fields values (coordinates_under (codes "project.groupId") (codes "project.artifactId") (codes "project.version") pom)) (codes "project.packaging", pom.packaging)))
    (project_parent pom.parent)

pub pom_fields : (values : List Pair) (pom : PomRecord)
    → put_fields (put_field (put_fields values (coordinates_under (codes "pom.groupId") (codes "pom.artifactId") (codes "pom.version") pom)) (codes "pom.packaging", pom.packaging))
    (parent_under (codes "pom.parent.groupId") (codes "pom.parent.artifactId") (codes "pom.parent.version") pom.parent)
    ≡ put_record values (codes "pom.") pom
unfolding put_record
pom_fields values pom =
    ap (put_fields (put_field (put_fields values (coordinates_under (codes "pom.groupId") (codes "pom.artifactId") (codes "pom.version") pom)) (codes "pom.packaging", pom.packaging)))
    (pom_parent pom.parent)

pub short_fields_again : (values : List Pair) (pom : PomRecord)
    → put_fields values (coordinates_under (codes "groupId") (codes "artifactId") (codes "version") pom) ≡ put_coordinates values [] pom
unfolding put_coordinates
short_fields_again values pom = refl
