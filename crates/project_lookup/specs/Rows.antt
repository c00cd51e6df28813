-- Worked rows.
use Rattle.std.specs.Prelude.{◌≡◌, List, [], ◌∷◌, codes, refl}
use Rattle.res_base.specs.Builders.{coord_of, key_of, module_of}
use Rattle.res_base.specs.Known.{Known, known_of}
use Rattle.res_base.specs.declared.coord.Coord.{Coord}
use Rattle.res_base.specs.declared.key.FileKey.{FileKey}
use Rattle.res_base.specs.declared.key.Role.TheVariants as roles
use Rattle.res_base.specs.declared.pom.PomRecord.{PomRecord}
use Rattle.res_base.specs.declared.reading.Reading.{Reading}
use Rattle.res_base.specs.declared.reading.Reading.TheVariants as readings
use Rattle.res_base.specs.declared.reading.ReadFault.TheVariants as faults
use Rattle.res_base.specs.declared.reading.Reason.TheVariants as reasons
use Rattle.std.specs.Prelude.{None, ℕ}
use Rattle.project_lookup.specs.Listings.{listing_of, versions, unknown, no_listing}
use Rattle.project_lookup.specs.Looks.{look_of, found, missing, not_found}

abbrev x-a-1 : Coord
x-a-1 = coord_of (codes "x") (codes "a") (codes "1")

abbrev pom : List ℕ → PomRecord
pom name =
    record {
      parent = None;
      org = codes "x";
      name = name;
      version = codes "1";
      packaging = [];
      properties = [];
      deps = [];
      managed = [];
      moved = None;
    }

abbrev at_pom : ℕ → Reading → FileKey × Reading
at_pom repo reading = (key_of repo roles.Pom (codes "x/a/1/a-1.pom"), reading)

abbrev at_listing : ℕ → Reading → FileKey × Reading
at_listing repo reading = (key_of repo roles.Listing (codes "x/a/maven-metadata.xml"), reading)

abbrev absent_then_two : Known
absent_then_two =
    let second = at_pom 1 (readings.Pom (pom (codes "b"))) in
    let third = at_pom 2 (readings.Pom (pom (codes "c"))) in
    known_of (second ∷ third ∷ at_pom 0 readings.Absent ∷ [])

-- the second repository counts, although the third has the project too
pub second_of_three : look_of absent_then_two 3 x-a-1 ≡ found 1 (pom (codes "b"))
second_of_three = refl

pub first_is_unknown : look_of (known_of (at_pom 1 (readings.Pom (pom (codes "b"))) ∷ [])) 2 x-a-1
    ≡ missing (key_of 0 roles.Pom (codes "x/a/1/a-1.pom"))
first_is_unknown = refl

pub reasons_in_order :
    look_of (known_of (at_pom 1 (readings.NotReadable faults.NotProject) ∷ at_pom 0 readings.TooLarge ∷ [])) 2 x-a-1
    ≡ not_found (reasons.TooLarge ∷ reasons.NotReadable faults.NotProject ∷ [])
reasons_in_order = refl

pub not_plain : look_of (known_of []) 2 (coord_of (codes "x") (codes "a") (codes "[1,2)"))
    ≡ not_found (reasons.BadName ∷ reasons.BadName ∷ [])
not_plain = refl

pub listed :
    listing_of (known_of (at_listing 0 (readings.Listing (codes "1.0" ∷ [])) ∷ [])) (module_of (codes "x") (codes "a")) 0
    ≡ versions (codes "1.0" ∷ [])
listed = refl

pub listing_unknown : listing_of (known_of (at_listing 0 readings.Absent ∷ [])) (module_of (codes "x") (codes "a")) 1
    ≡ unknown (key_of 1 roles.Listing (codes "x/a/maven-metadata.xml"))
listing_unknown = refl

pub listing_absent : listing_of (known_of (at_listing 0 readings.Absent ∷ [])) (module_of (codes "x") (codes "a")) 0
    ≡ no_listing
listing_absent = refl

pub listing_not_plain : listing_of (known_of []) (module_of (codes "x") (codes "..")) 0 ≡ no_listing
listing_not_plain = refl
