-- Worked rows: an artifact by its length, the steps of a listing, and an absent file.
use Rattle.std.specs.Prelude.{◌≡◌, codes, refl}
use Rattle.answer_reading.specs.Readings.{reading_of, steps_of}
use Rattle.res_base.specs.declared.key.Role.TheVariants.{Pom, Listing, Artifact}
use Rattle.res_base.specs.declared.reading.Answer.TheVariants.{Bytes, Absent as absent_answer}
use Rattle.res_base.specs.declared.reading.Reading.TheVariants.{Absent, Stored}

pub artifact_by_length : reading_of Artifact (Bytes (codes "abc")) ≡ Stored 3
artifact_by_length = refl

pub artifact_unread : steps_of Artifact (Bytes (codes "abc")) ≡ 0
artifact_unread = refl

pub byte_by_byte : steps_of Listing (Bytes (codes "<a/>")) ≡ 4
byte_by_byte = refl

pub absent : reading_of Pom absent_answer ≡ Absent
absent = refl
