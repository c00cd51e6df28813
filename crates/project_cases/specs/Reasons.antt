-- Why bytes gave no project, as printed.
use Rattle.std.specs.Prelude.{ℕ, List, Option, None, Some, ◌++◌, codes, decimal}
use Rattle.hex.specs.Hex.{encode_lower}
use Rattle.res_base.specs.declared.reading.Check.{Check}
use Rattle.res_base.specs.declared.reading.Check.TheVariants as checks
use Rattle.res_base.specs.declared.reading.Damage.{Damage}
use Rattle.res_base.specs.declared.reading.Digest.{Digest}
use Rattle.res_base.specs.declared.reading.Field.{Field}
use Rattle.res_base.specs.declared.reading.Field.TheVariants as fields
use Rattle.res_base.specs.declared.reading.ReadFault.{ReadFault}
use Rattle.res_base.specs.declared.reading.ReadFault.TheVariants as faults
use Rattle.res_base.specs.declared.reading.Reason.{Reason}
use Rattle.res_base.specs.declared.reading.Reason.TheVariants as reasons
use Rattle.value_cases.specs.Digests.{digest_bytes}

abbrev pub field_word : Field → List ℕ
field_word fields.ParentOrg = codes "parent.groupId"
field_word fields.ParentName = codes "parent.artifactId"
field_word fields.ParentVersion = codes "parent.version"
field_word fields.Org = codes "groupId"
field_word fields.Name = codes "artifactId"
field_word fields.Version = codes "version"

abbrev pub fault_line : ReadFault → List ℕ
fault_line (faults.BadText place) = codes "bad-text " ++ decimal place
fault_line (faults.Doctype place) = codes "doctype " ++ decimal place
fault_line (faults.TooDeep place) = codes "too-deep " ++ decimal place
fault_line (faults.UnknownEncoding place) = codes "unknown-encoding " ++ decimal place
fault_line faults.NotProject = codes "not-project"
fault_line (faults.NoCoordinates field) = codes "no-coordinates " ++ field_word field
fault_line faults.NotMetadata = codes "not-metadata"

-- hexadecimal digits, or a dash for none
abbrev pub digest_word : Option Digest → List ℕ
digest_word None = codes "-"
digest_word (Some digest) = encode_lower (digest_bytes digest)

abbrev pub with_digests : Check → List ℕ → List ℕ
with_digests checks.Sha1 digests = codes "sha1" ++ digests
with_digests checks.Md5 digests = codes "md5" ++ digests
with_digests checks.Sha256 digests = codes "sha256" ++ digests
with_digests checks.NoCheck digests = codes "none"

-- the check, and the digests that were wanted and found where it has some
abbrev pub damage_line : Damage → List ℕ
damage_line damage = with_digests damage.check (codes " " ++ (digest_word damage.wanted ++ (codes " " ++ digest_word damage.got)))

abbrev pub reason_line : Reason → List ℕ
reason_line reasons.Absent = codes "absent"
reason_line (reasons.NotReadable fault) = codes "not-readable " ++ fault_line fault
reason_line (reasons.Damaged damage) = codes "damaged " ++ damage_line damage
reason_line reasons.TooLarge = codes "too-large"
reason_line reasons.BadName = codes "name"
