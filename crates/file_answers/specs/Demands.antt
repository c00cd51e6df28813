-- What checks ask of the bytes of a file.
use Rattle.std.specs.Prelude.{ℕ, ◌≡◌, Bool, true, false, not, IsTrue, Option, Some, None, List, [], ◌∷◌}
use Rattle.std.specs.List.{list_any}
use Rattle.res_base.specs.declared.reading.Answer.{Answer}
use Rattle.res_base.specs.declared.reading.Answer.TheVariants as answers
use Rattle.res_base.specs.declared.reading.Check.{Check}
use Rattle.res_base.specs.declared.reading.Check.TheVariants as checks
use Rattle.res_base.specs.declared.reading.Damage.{Damage}
use Rattle.res_base.specs.declared.reading.Digest.{Digest}
use Rattle.res_base.specs.declared.reading.Digest.TheVariants as kinds
use Rattle.digest_check.specs.declared.sums.Digests.{Digests}
use Rattle.digest_check.specs.Digests.{digest_by, digests_of}
use Rattle.digest_check.specs.KeyAnswers.{Held, damage_of, unless_damaged, wanted}
use Rattle.file_answers.specs.declared.demand.Demand.{Demand}
use Rattle.file_answers.specs.declared.demand.Demand.TheVariants.{AnyBytes, DigestOf, Undecided}

-- a check with a digest in its checksum file decides, and without one the later checks do
abbrev pub demanded : Check → Option Digest → Demand → Demand
demanded check None later = later
demanded check (Some digest) later = DigestOf check digest

-- what checks ask of the file at a URL
abbrev pub demand_of : Held → List ℕ → List Check → Demand
demand_of held url [] = Undecided
demand_of held url (checks.NoCheck ∷ rest) = AnyBytes
demand_of held url (check ∷ rest) = demanded check (wanted held url check) (demand_of held url rest)

-- the damage of a file with these digests
abbrev pub damage_by : Demand → Digests → Option Damage
damage_by AnyBytes all = None
damage_by (DigestOf check digest) all = damage_of check digest (digest_by check all)
damage_by Undecided all = Some (record { check = checks.NoCheck; wanted = None; got = None })

-- the answer to a file with these bytes
abbrev pub judged : Demand → List ℕ → Answer
judged demand bytes = unless_damaged (damage_by demand (digests_of bytes)) bytes

-- a digest of the kind that a check compares
abbrev pub is_of : Check → Digest → Bool
is_of checks.Sha1 (kinds.Sha1 bytes) = true
is_of checks.Md5 (kinds.Md5 bytes) = true
is_of checks.Sha256 (kinds.Sha256 bytes) = true
is_of _ _ = false

-- this check decides by a digest of its kind
abbrev pub is_check_of : Digest → Check → Bool
is_check_of digest check = is_of check digest

abbrev pub is_none : Check → Bool
is_none checks.NoCheck = true
is_none _ = false

-- what is so of each demand of a list of checks, whatever stands beside the file: any bytes will do only where `none`
-- is listed, a digest is of the kind of a listed check, and where `none` is listed some check decides
abbrev pub MayDemand : List Check → Demand → Type 0
MayDemand list AnyBytes = IsTrue (list_any is_none list)
MayDemand list (DigestOf check digest) = IsTrue (is_of check digest) × IsTrue (list_any (is_check_of digest) list)
MayDemand list Undecided = IsTrue (not (list_any is_none list))

-- some demand that these checks can have gives this answer to some bytes
abbrev pub IsJudged : List Check → Answer → Type 0
IsJudged list answer = (demand : Demand) × (MayDemand list demand × ((bytes : List ℕ) × (answer ≡ judged demand bytes)))

-- what is so of each answer, whatever a repository holds
abbrev pub MayAnswer : List Check → Answer → Type 0
MayAnswer list answers.Absent = Unit {0}
MayAnswer list answers.TooLarge = Unit {0}
MayAnswer list answer = IsJudged list answer
