-- The fields of a line, each by itself and with what follows it.
use Rattle.std.specs.Prelude.{◌≡◌, ◌⊎◌, ℕ, ◌+◌, ◌-◌, ◌*◌, ◌<◌, ◌≤◌, ◌^◌, Bool, true, false, ◌||◌, List, [], ◌∷◌, ◌++◌, Option, IfSome, codes, is_some, length, max, slice_index, take}
use Rattle.std.specs.List.{list_all}
use Rattle.std.specs.Fmt.{decimal}
use Rattle.hex.specs.Hex.{encode_lower}
use Rattle.ascii_bytes.specs.Signs.{bar}
use Rattle.ascii_bytes.specs.Classes.{between, is_digit}
use Rattle.res_base.specs.declared.reading.Check.{Check}
use Rattle.res_base.specs.declared.reading.Check.TheVariants.{Sha1, Md5, Sha256, NoCheck}
use Rattle.cache_layout.specs.Places.{common}
use Rattle.cache_layout.specs.Lines.{IsDigest, check_text, checks_text, digests_text, fields_text, length_text, moment_text, sha256_text}
use Rattle.cache_layout.specs.declared.errors.RecordErr.{RecordErr}
use Rattle.cache_layout.specs.declared.errors.RecordErr.TheVariants.{BadLine, NoMemory}
use Rattle.cache_layout.specs.declared.record.Record.{Record}
use Rattle.cache_layout.specs.declared.record_lines.Digests.{Digests}
use Rattle.cache_layout.specs.declared.record_lines.Ends.{Ends}
use Rattle.cache_layout.specs.declared.record_lines.Times.{Times}

-- a decimal number from `least` to `most`, without leading zeros
pub record IsNumber (least most : ℕ) (text : List ℕ) (number : ℕ) : Type 0 where
  pub whole : text ≡ decimal number
  pub low : least ≤ number
  pub high : number ≤ most

-- The number so far goes on by a byte, at the place i, to a number from `least` to `most` without leading zeros.
pub record GoesOnTo (least most i number byte more : ℕ) : Type 0 where
  pub digit : is_digit byte ≡ true
  pub value : more ≡ number * 10 + (byte - 48)
  pub low : least ≤ more
  pub high : more ≤ most
  pub no_zero : 0 < i → 0 < number

abbrev pub IsCheckName : List ℕ → Check → Type 0
IsCheckName text check = text ≡ check_text check

-- how many bytes of a text begin one of the names of checks
abbrev pub names_end : List ℕ → ℕ
names_end name =
    max (max (common (check_text Sha1) name) (common (check_text Md5) name))
    (max (common (check_text Sha256) name) (common (check_text NoCheck) name))

-- a vertical bar behind names, if there are any
abbrev pub with_bar : List ℕ → List ℕ
with_bar [] = []
with_bar (byte ∷ names) = byte ∷ (names ++ bar ∷ [])

abbrev pub AreChecks : List ℕ → List Check → Type 0
AreChecks text checks = text ≡ checks_text checks

-- 0-9 a-f
abbrev pub is_small_digit : ℕ → Bool
is_small_digit byte = is_digit byte || between 97 102 byte

-- so many bytes are digits, no more than there may be, and then comes another byte, one too many, or too early an end
pub record StopsDigits (digits : ℕ) (text : List ℕ) (place : ℕ) : Type 0 where
  pub within : place ≤ length text
  pub few : place ≤ digits
  pub before : list_all is_small_digit (take place text) ≡ true
  pub stops : place < length text → (is_small_digit (slice_index text place) ≡ false) ⊎ (place ≡ digits)
  pub ends : place ≡ length text → place < digits

pub record IsDigestText (size : ℕ) (text digest : List ℕ) : Type 0 where
  pub whole : text ≡ encode_lower digest
  pub fits : IsDigest size digest

pub record IsMomentText (text : List ℕ) (moment : ℕ) : Type 0 where
  pub whole : text ≡ moment_text moment
  pub small : moment < 2 ^ 64

pub record IsLengthText (text : List ℕ) (times : Times) : Type 0 where
  pub whole : text ≡ length_text times.length times.moment
  pub small_length : times.length < 2 ^ 64
  pub small_moment : times.moment < 2 ^ 64

-- the record of these fields
abbrev pub record_from : List Check → Digests → Record
record_from checks digests = record {
  checks = checks;
  sha1 = digests.sha1;
  sha256 = digests.ends.sha256;
  length = digests.ends.times.length;
  moment = digests.ends.times.moment;
}

-- how a line begins, of format 2 or of format 1
abbrev pub format_head : Bool → List ℕ
format_head false = codes "coursier-cache 1"
format_head true = codes "coursier-cache 2"

-- a refusal behind so many more bytes
abbrev pub moved : ℕ → RecordErr → RecordErr
moved before (BadLine n) = BadLine (before + n)
moved before NoMemory = NoMemory

-- of format 2, or of format 1
pub record IsEndText (second : Bool) (text : List ℕ) (ends : Ends) : Type 0 where
  pub whole : text ≡ sha256_text ends.sha256 ends.times.length ends.times.moment
  pub format : is_some ends.sha256 ≡ second
  pub sha256 : IfSome ends.sha256 (IsDigest 32)
  pub small_length : ends.times.length < 2 ^ 64
  pub small_moment : ends.times.moment < 2 ^ 64

pub record IsDigestsText (second : Bool) (text : List ℕ) (digests : Digests) : Type 0 where
  pub whole : text ≡ digests_text digests.sha1 digests.ends.sha256 digests.ends.times.length digests.ends.times.moment
  pub format : is_some digests.ends.sha256 ≡ second
  pub sha1 : IsDigest 20 digests.sha1
  pub sha256 : IfSome digests.ends.sha256 (IsDigest 32)
  pub small_length : digests.ends.times.length < 2 ^ 64
  pub small_moment : digests.ends.times.moment < 2 ^ 64

pub record IsFieldsText (second : Bool) (text : List ℕ) (entry : Record) : Type 0 where
  pub whole : text ≡ fields_text entry
  pub format : is_some entry.sha256 ≡ second
  pub sha1 : IsDigest 20 entry.sha1
  pub sha256 : IfSome entry.sha256 (IsDigest 32)
  pub small_length : entry.length < 2 ^ 64
  pub small_moment : entry.moment < 2 ^ 64
