-- The answer to a key: what a world holds at its URL, under a list of checks and a limit.
use Rattle.std.specs.Prelude.{ℕ, ◌++◌, nat_le, nat_lt, if◌then◌else◌, Option, Some, None, List, [], ◌∷◌, length, option_and_then, unwrap_or, slice_get}
use Rattle.std.specs.Option.{option_eq}
use Rattle.res_base.specs.Paths.{url_at}
use Rattle.res_base.specs.World.{at}
use Rattle.res_base.specs.declared.key.FileKey.{FileKey}
use Rattle.res_base.specs.declared.key.Role.{Role}
use Rattle.res_base.specs.declared.key.Role.TheVariants as roles
use Rattle.res_base.specs.declared.reading.Answer.{Answer}
use Rattle.res_base.specs.declared.reading.Answer.TheVariants as answers
use Rattle.res_base.specs.declared.reading.Check.{Check}
use Rattle.res_base.specs.declared.reading.Check.TheVariants as checks
use Rattle.res_base.specs.declared.reading.Damage.{Damage}
use Rattle.res_base.specs.declared.reading.Digest.{Digest}
use Rattle.res_base.specs.declared.world.WorldRow.{WorldRow}
use Rattle.digest_check.specs.ChecksumFiles.{digest_in, suffix_of}
use Rattle.digest_check.specs.declared.limits.TheConstants.{CHECKSUM_LIMIT, TEXT_LIMIT}
use Rattle.digest_check.specs.Digests.{digest_eq, digest_of}

-- what stands at each URL
abbrev pub Held : Type 0
Held = List ℕ → Option (List ℕ)

-- the greatest length of a checksum file
abbrev pub checksum_limit : ℕ
checksum_limit = CHECKSUM_LIMIT

-- the digest in a file, unless it is too long
abbrev pub in_short_file : Check → List ℕ → Option Digest
in_short_file check file = if nat_le (length file) checksum_limit then digest_in check file else None

-- the digest in the checksum file of a URL
abbrev pub wanted : Held → List ℕ → Check → Option Digest
wanted held url check = option_and_then (in_short_file check) (held (url ++ suffix_of check))

-- the damage where bytes do not have the digest that a check wants
abbrev pub damage_of : Check → Digest → Option Digest → Option Damage
damage_of check digest got = if option_eq digest_eq got (Some digest) then None else Some
    (record { check = check; wanted = Some digest; got = got })

abbrev pub unless_damaged : Option Damage → List ℕ → Answer
unless_damaged None bytes = answers.Bytes bytes
unless_damaged (Some damage) bytes = answers.Damaged damage

-- A check with a wanted digest decides by the digest that the bytes have; without one the later checks do.
abbrev pub decided : Check → Option Digest → Option Digest → List ℕ → Answer → Answer
decided check None got bytes later = later
decided check (Some digest) got bytes later = unless_damaged (damage_of check digest got) bytes

-- the bytes at a URL under a list of checks
abbrev pub checked : Held → List ℕ → List ℕ → List Check → Answer
checked held url bytes [] = answers.Damaged (record { check = checks.NoCheck; wanted = None; got = None })
checked held url bytes (checks.NoCheck ∷ rest) = answers.Bytes bytes
checked held url bytes (check ∷ rest) = decided check (wanted held url check) (digest_of check bytes) bytes
    (checked held url bytes rest)

abbrev pub within_limit : ℕ → List ℕ → Answer → Answer
within_limit limit bytes answer = if nat_lt limit (length bytes) then answers.TooLarge else answer

abbrev pub of_bytes : Held → List Check → ℕ → List ℕ → Option (List ℕ) → Answer
of_bytes held list limit url None = answers.Absent
of_bytes held list limit url (Some bytes) = within_limit limit bytes (checked held url bytes list)

-- the answer at a URL
abbrev pub answer_at : Held → List Check → ℕ → List ℕ → Answer
answer_at held list limit url = of_bytes held list limit url (held url)

-- the greatest length of a POM or a listing
abbrev pub text_limit : ℕ
text_limit = TEXT_LIMIT

abbrev pub limit_of : Role → ℕ → ℕ
limit_of roles.Artifact limit = limit
limit_of _ limit = text_limit

-- the URL of a key, over the repositories' addresses in listed order
abbrev pub key_url : List (List ℕ) → FileKey → List ℕ
key_url addresses key = url_at (unwrap_or (slice_get addresses key.repo) []) key.path

-- the answer to a key, over the rows of a world
abbrev pub answer : List WorldRow → List (List ℕ) → List Check → ℕ → FileKey → Answer
answer rows addresses list limit key = answer_at (at rows) list (limit_of key.role limit) (key_url addresses key)
