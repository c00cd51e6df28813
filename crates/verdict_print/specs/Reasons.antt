-- Why a repository gave no project or no file, in words.
use Rattle.std.specs.Prelude.{ℕ, List, ◌++◌, Option, None, Some, codes}
use Rattle.std.specs.Fmt.{decimal}
use Rattle.hex.specs.Hex.{encode_lower}
use Rattle.res_base.specs.declared.reading.Check.{Check}
use Rattle.res_base.specs.declared.reading.Check.TheVariants as checks
use Rattle.res_base.specs.declared.reading.Damage.{Damage}
use Rattle.res_base.specs.declared.reading.Digest.{Digest}
use Rattle.res_base.specs.declared.reading.Digest.TheVariants as digests
use Rattle.res_base.specs.declared.reading.Field.{Field}
use Rattle.res_base.specs.declared.reading.Field.TheVariants as fields
use Rattle.res_base.specs.declared.reading.ReadFault.{ReadFault}
use Rattle.res_base.specs.declared.reading.ReadFault.TheVariants as faults
use Rattle.res_base.specs.declared.reading.Reason.{Reason}
use Rattle.res_base.specs.declared.reading.Reason.TheVariants as reasons

-- a word and a number
abbrev pub numbered : List ℕ → ℕ → List ℕ
numbered word n = word ++ (codes " " ++ decimal n)

-- the field of a project file
abbrev pub field_text : Field → List ℕ
field_text fields.ParentOrg = codes "parent.groupId"
field_text fields.ParentName = codes "parent.artifactId"
field_text fields.ParentVersion = codes "parent.version"
field_text fields.Org = codes "groupId"
field_text fields.Name = codes "artifactId"
field_text fields.Version = codes "version"

abbrev pub fault_text : ReadFault → List ℕ
fault_text (faults.BadText place) = numbered (codes "bad-text") place
fault_text (faults.Doctype place) = numbered (codes "doctype") place
fault_text (faults.TooDeep place) = numbered (codes "too-deep") place
fault_text (faults.UnknownEncoding place) = numbered (codes "unknown-encoding") place
fault_text faults.NotProject = codes "not-project"
fault_text (faults.NoCoordinates field) = codes "no-coordinates " ++ field_text field
fault_text faults.NotMetadata = codes "not-metadata"

-- hexadecimal digits with small letters
abbrev pub digest_text : Digest → List ℕ
digest_text (digests.Sha1 bytes) = encode_lower bytes
digest_text (digests.Md5 bytes) = encode_lower bytes
digest_text (digests.Sha256 bytes) = encode_lower bytes

-- a dash for a digest that is absent
abbrev pub digest_or_dash : Option Digest → List ℕ
digest_or_dash None = codes "-"
digest_or_dash (Some digest) = digest_text digest

-- the check, the digest that was wanted and the one that the bytes have
abbrev pub failed_text : List ℕ → Option Digest → Option Digest → List ℕ
failed_text check wanted got =
    codes "damaged " ++ (check ++ (codes " " ++ (digest_or_dash wanted ++ (codes " " ++ digest_or_dash got))))

abbrev pub checked_text : Check → Option Digest → Option Digest → List ℕ
checked_text checks.Sha1 wanted got = failed_text (codes "sha1") wanted got
checked_text checks.Md5 wanted got = failed_text (codes "md5") wanted got
checked_text checks.Sha256 wanted got = failed_text (codes "sha256") wanted got
checked_text checks.NoCheck wanted got = codes "damaged none"

abbrev pub damage_text : Damage → List ℕ
damage_text damage = checked_text damage.check damage.wanted damage.got

abbrev pub reason_text : Reason → List ℕ
reason_text reasons.Absent = codes "absent"
reason_text (reasons.NotReadable fault) = codes "not-readable " ++ fault_text fault
reason_text (reasons.Damaged damage) = damage_text damage
reason_text reasons.TooLarge = codes "too-large"
reason_text reasons.BadName = codes "name"
