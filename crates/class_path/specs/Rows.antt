-- Worked rows.
use Rattle.std.specs.Prelude.{◌≡◌, List, ℕ, [], ◌∷◌, codes, refl}
use Rattle.class_path.specs.Files.{class_path_of}
use Rattle.class_path.specs.declared.rows.FileRow.{FileRow}
use Rattle.res_base.specs.Builders.{key_of}
use Rattle.res_base.specs.declared.key.Role.TheVariants.{Artifact}
use Rattle.res_base.specs.declared.reading.Reading.TheVariants.{Absent}

abbrev row : List ℕ → FileRow
row name = record { key = key_of 0 Artifact (codes "x/a/1/a-1.jar"); name = name; reading = Absent }

pub none : class_path_of [] (codes "c/") ≡ []
none = refl

pub one : class_path_of (row (codes "http/r1/x/a/1/a-1.jar") ∷ []) [] ≡ codes "http/r1/x/a/1/a-1.jar"
one = refl

pub two : class_path_of (row (codes "http/a") ∷ row (codes "here/b") ∷ []) (codes "c/") ≡ codes "c/http/a:c/here/b"
two = refl
