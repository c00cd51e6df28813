-- What the definitions give, row by row.
use Rattle.std.specs.Prelude.{◌≡◌, true, false, Some, None, [], ◌∷◌, codes, refl}
use Rattle.std.specs.declared.cmp.Ordering.TheVariants.{Less, Greater}
use Rattle.res_base.specs.Builders.{module_of, coord_of, key_of, row_of}
use Rattle.res_base.specs.CoordReader.{coord_in}
use Rattle.res_base.specs.Known.{known_of}
use Rattle.res_base.specs.Names.{key_cmp, module_cmp}
use Rattle.res_base.specs.Paths.{file_path_of, listing_path_of, pom_path_of, url_at}
use Rattle.res_base.specs.Plain.{is_plain_name, is_plain_org}
use Rattle.res_base.specs.World.{at}
use Rattle.res_base.specs.declared.key.Role.TheVariants.{Pom, Listing}
use Rattle.res_base.specs.declared.reading.Reading.TheVariants.{Absent, TooLarge}

-- paths

pom_row : pom_path_of (coord_of (codes "org.apache.commons") (codes "commons-io") (codes "2.6"))
    ≡ codes "org/apache/commons/commons-io/2.6/commons-io-2.6.pom"
pom_row = refl

jar_row : file_path_of (coord_of (codes "x") (codes "a") (codes "1")) (codes "jar") [] ≡ codes "x/a/1/a-1.jar"
jar_row = refl

classifier_row : file_path_of (coord_of (codes "x.y") (codes "a") (codes "1")) (codes "jar") (codes "sources")
    ≡ codes "x/y/a/1/a-1-sources.jar"
classifier_row = refl

listing_row : listing_path_of (module_of (codes "x.y") (codes "a.b")) ≡ codes "x/y/a.b/maven-metadata.xml"
listing_row = refl

url_row : url_at (codes "http://r1") (codes "x/a/1/a-1.pom") ≡ codes "http://r1/x/a/1/a-1.pom"
url_row = refl

-- plain texts

org_row : is_plain_org (codes "org.apache.commons-io_2") ≡ true
org_row = refl

org_two_dots_row : is_plain_org (codes "org..a") ≡ false
org_two_dots_row = refl

org_last_dot_row : is_plain_org (codes "org.") ≡ false
org_last_dot_row = refl

org_plus_row : is_plain_org (codes "org+a") ≡ false
org_plus_row = refl

org_empty_row : is_plain_org [] ≡ false
org_empty_row = refl

name_row : is_plain_name (codes "2.13.1+build_7-rc") ≡ true
name_row = refl

name_dots_row : is_plain_name (codes "..") ≡ false
name_dots_row = refl

name_three_dots_row : is_plain_name (codes "...") ≡ true
name_three_dots_row = refl

name_empty_row : is_plain_name [] ≡ false
name_empty_row = refl

name_slash_row : is_plain_name (codes "a/b") ≡ false
name_slash_row = refl

-- texts of coordinates

read_row : coord_in (codes "org.a:a:[1.0,2.0)") ≡ Some (coord_of (codes "org.a") (codes "a") (codes "[1.0,2.0)"))
read_row = refl

no_version_row : coord_in (codes "x:a") ≡ None
no_version_row = refl

empty_version_row : coord_in (codes "x:a:") ≡ None
empty_version_row = refl

dots_row : coord_in (codes "x:..:1") ≡ None
dots_row = refl

-- orders

module_row : module_cmp (module_of (codes "org.a") (codes "z")) (module_of (codes "org.b") (codes "a")) ≡ Less
module_row = refl

longer_row : module_cmp (module_of (codes "org.ab") (codes "a")) (module_of (codes "org.a") (codes "b")) ≡ Greater
longer_row = refl

key_repo_row : key_cmp (key_of 0 Listing (codes "z")) (key_of 1 Pom (codes "a")) ≡ Less
key_repo_row = refl

key_path_row : key_cmp (key_of 1 Listing (codes "a")) (key_of 1 Pom (codes "b")) ≡ Less
key_path_row = refl

key_role_row : key_cmp (key_of 1 Listing (codes "a")) (key_of 1 Pom (codes "a")) ≡ Greater
key_role_row = refl

-- worlds and what is known

first_row : at (row_of (codes "http://r1/a") (codes "one") ∷ row_of (codes "http://r1/a") (codes "two") ∷ [])
    (codes "http://r1/a") ≡ Some (codes "one")
first_row = refl

absent_row : at (row_of (codes "http://r1/a") (codes "one") ∷ []) (codes "http://r1/") ≡ None
absent_row = refl

known_row : known_of ((key_of 0 Pom (codes "a"), Absent) ∷ (key_of 1 Pom (codes "a"), TooLarge) ∷ [])
    (key_of 1 Pom (codes "a")) ≡ Some TooLarge
known_row = refl

unknown_row : known_of ((key_of 0 Pom (codes "a"), Absent) ∷ []) (key_of 0 Listing (codes "a")) ≡ None
unknown_row = refl
