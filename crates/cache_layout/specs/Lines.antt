-- The lines of the cache's records, and of its absence records.
use Rattle.std.specs.Prelude.{◌≡◌, ℕ, ◌<◌, ◌^◌, List, [], ◌∷◌, ◌++◌, Option, Some, None, IfSome, codes, length, map}
use Rattle.std.specs.Fmt.{decimal}
use Rattle.std.specs.List.{join_with_byte}
use Rattle.hex.specs.Hex.{IsBytes, encode_lower}
use Rattle.ascii_bytes.specs.Signs.{bar, line_feed, space}
use Rattle.res_base.specs.declared.reading.Check.{Check}
use Rattle.res_base.specs.declared.reading.Check.TheVariants.{Sha1, Md5, Sha256, NoCheck}
use Rattle.cache_layout.specs.declared.record.Record.{Record}

abbrev pub check_text : Check → List ℕ
check_text Sha1 = codes "sha1"
check_text Md5 = codes "md5"
check_text Sha256 = codes "sha256"
check_text NoCheck = codes "none"

-- the names of checks, with a vertical bar between two
abbrev pub checks_text : List Check → List ℕ
checks_text checks = join_with_byte bar (map check_text checks)

-- how a line begins: format 2 has a SHA-256, format 1 has none
abbrev pub head_text : Option (List ℕ) → List ℕ
head_text None = codes "coursier-cache 1"
head_text (Some sha256) = codes "coursier-cache 2"

-- a moment, and the end of the line
abbrev pub moment_text : ℕ → List ℕ
moment_text moment = space ∷ (decimal moment ++ line_feed ∷ [])

-- a length and what follows it
abbrev pub length_text : ℕ → ℕ → List ℕ
length_text length moment = space ∷ (decimal length ++ moment_text moment)

-- a SHA-256, where there is one, and what follows it
abbrev pub sha256_text : Option (List ℕ) → ℕ → ℕ → List ℕ
sha256_text None length moment = length_text length moment
sha256_text (Some sha256) length moment = space ∷ (encode_lower sha256 ++ length_text length moment)

-- a SHA-1 and what follows it
abbrev pub digests_text : List ℕ → Option (List ℕ) → ℕ → ℕ → List ℕ
digests_text sha1 sha256 length moment = space ∷ (encode_lower sha1 ++ sha256_text sha256 length moment)

-- the checks and what follows them
abbrev pub fields_text : Record → List ℕ
fields_text entry =
    space ∷ (checks_text entry.checks ++ digests_text entry.sha1 entry.sha256 entry.length entry.moment)

-- Of a record: `coursier-cache`, the format, the checks in their order, the SHA-1, in format 2 the SHA-256, the length
-- and the moment, with a space between two, and a line feed. Numbers are decimal, digests hexadecimal with small letters.
abbrev pub record_text : Record → List ℕ
record_text entry = head_text entry.sha256 ++ fields_text entry

-- of an absence record
abbrev pub gone_text : ℕ → List ℕ
gone_text moment = codes "coursier-gone 1" ++ moment_text moment

abbrev pub IsDigest : ℕ → List ℕ → Type 0
IsDigest size digest = (length digest ≡ size) × IsBytes digest

-- The text is the line of a record, whose numbers fit 64 bits.
pub record IsRecordLine (text : List ℕ) (entry : Record) : Type 0 where
  pub whole : text ≡ record_text entry
  pub sha1 : IsDigest 20 entry.sha1
  pub sha256 : IfSome entry.sha256 (IsDigest 32)
  pub small_length : entry.length < 2 ^ 64
  pub small_moment : entry.moment < 2 ^ 64

-- the text is the line of an absence record
pub record IsGoneLine (text : List ℕ) (moment : ℕ) : Type 0 where
  pub whole : text ≡ gone_text moment
  pub small : moment < 2 ^ 64
