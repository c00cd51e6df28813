-- What is read of an answer, by the role of its key.
use Rattle.std.specs.Prelude.{ℕ, Bool, true, List, Result, Ok, Err, length}
use Rattle.meta_record.specs.Readings.{read_listing}
use Rattle.meta_record.specs.declared.listing_err.ListingErr.{ListingErr}
use Rattle.meta_record.specs.declared.listing_err.ListingErr.TheVariants as listings
use Rattle.pom_record.specs.Readings.{read_pom}
use Rattle.pom_record.specs.declared.pom_err.PomErr.{PomErr}
use Rattle.pom_record.specs.declared.pom_err.PomErr.TheVariants as poms
use Rattle.res_base.specs.Names.{role_eq}
use Rattle.res_base.specs.declared.key.Role.{Role}
use Rattle.res_base.specs.declared.key.Role.TheVariants as roles
use Rattle.res_base.specs.declared.pom.PomRecord.{PomRecord}
use Rattle.res_base.specs.declared.reading.Answer.{Answer}
use Rattle.res_base.specs.declared.reading.Answer.TheVariants as answers
use Rattle.res_base.specs.declared.reading.ReadFault.{ReadFault}
use Rattle.res_base.specs.declared.reading.ReadFault.TheVariants as faults
use Rattle.res_base.specs.declared.reading.Reading.{Reading}
use Rattle.res_base.specs.declared.reading.Reading.TheVariants as readings

-- whether the answer may be given for a key of the role: only artifacts go to the store
abbrev pub may_answer : Answer → Role → Bool
may_answer (answers.Bytes bytes) role = true
may_answer (answers.Stored size) role = role_eq role roles.Artifact
may_answer answers.Absent role = true
may_answer (answers.Damaged damage) role = true
may_answer answers.TooLarge role = true

-- Want of memory is no fault of any bytes: `reading_laws` of the readers say that it is never due.
abbrev pub fault_in_pom : PomErr → ReadFault
fault_in_pom (poms.BadText place) = faults.BadText place
fault_in_pom (poms.Doctype place) = faults.Doctype place
fault_in_pom (poms.TooDeep place) = faults.TooDeep place
fault_in_pom (poms.UnknownEncoding place) = faults.UnknownEncoding place
fault_in_pom poms.NotProject = faults.NotProject
fault_in_pom (poms.NoCoordinates field) = faults.NoCoordinates field
fault_in_pom poms.NoMemory = faults.NotProject

abbrev pub fault_in_listing : ListingErr → ReadFault
fault_in_listing (listings.BadText place) = faults.BadText place
fault_in_listing (listings.Doctype place) = faults.Doctype place
fault_in_listing (listings.TooDeep place) = faults.TooDeep place
fault_in_listing (listings.UnknownEncoding place) = faults.UnknownEncoding place
fault_in_listing listings.NotMetadata = faults.NotMetadata
fault_in_listing listings.NoMemory = faults.NotMetadata

abbrev pub of_pom : Result PomRecord PomErr → Reading
of_pom (Ok pom) = readings.Pom pom
of_pom (Err refusal) = readings.NotReadable (fault_in_pom refusal)

abbrev pub of_listing : Result (List (List ℕ)) ListingErr → Reading
of_listing (Ok versions) = readings.Listing versions
of_listing (Err refusal) = readings.NotReadable (fault_in_listing refusal)

-- a project file and a listing are read, of an artifact only the length is kept
abbrev pub read_bytes : Role → List ℕ → Reading
read_bytes roles.Pom bytes = of_pom (read_pom bytes)
read_bytes roles.Listing bytes = of_listing (read_listing bytes)
read_bytes roles.Artifact bytes = readings.Stored (length bytes)

abbrev pub reading_of : Role → Answer → Reading
reading_of role (answers.Bytes bytes) = read_bytes role bytes
reading_of role (answers.Stored size) = readings.Stored size
reading_of role answers.Absent = readings.Absent
reading_of role (answers.Damaged damage) = readings.Damaged damage
reading_of role answers.TooLarge = readings.TooLarge

-- a step for each byte of a project file or a listing
abbrev pub steps_of_bytes : Role → List ℕ → ℕ
steps_of_bytes roles.Pom bytes = length bytes
steps_of_bytes roles.Listing bytes = length bytes
steps_of_bytes roles.Artifact bytes = 0

abbrev pub steps_of : Role → Answer → ℕ
steps_of role (answers.Bytes bytes) = steps_of_bytes role bytes
steps_of role (answers.Stored size) = 0
steps_of role answers.Absent = 0
steps_of role (answers.Damaged damage) = 0
steps_of role answers.TooLarge = 0
