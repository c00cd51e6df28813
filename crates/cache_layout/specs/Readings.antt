-- The record whose line a text is: each line is the line of one record.
use Rattle.std.specs.Prelude.{ℕ, ◌^◌, Bool, true, ◌&&◌, ◌||◌, ◌==◌, List, [], ◌∷◌, Option, Some, None, Result, Ok, Err, length, map, nat_lt, codes, if◌then◌else◌}
use Rattle.std.specs.List.{list_all, slice_split}
use Rattle.hex.specs.Hex.{decode_of}
use Rattle.hex.specs.declared.error.FromHexError.{FromHexError}
use Rattle.ascii_bytes.specs.Digits.{decimal}
use Rattle.ascii_bytes.specs.Signs.{bar, line_feed, space}
use Rattle.res_base.specs.Names.{text_eq}
use Rattle.res_base.specs.declared.reading.Check.{Check}
use Rattle.res_base.specs.declared.reading.Check.TheVariants.{Sha1, Md5, Sha256, NoCheck}
use Rattle.cache_layout.specs.Lines.{gone_text, record_text}
use Rattle.cache_layout.specs.declared.record.Record.{Record}

-- the check of a name
abbrev pub check_in : List ℕ → Check
check_in name =
    if text_eq name (codes "sha1") then Sha1 else
    if text_eq name (codes "md5") then Md5 else
    if text_eq name (codes "sha256") then Sha256 else NoCheck

abbrev pub is_bar : ℕ → Bool
is_bar byte = byte == bar

abbrev pub checks_in : List ℕ → List Check
checks_in [] = []
checks_in (byte ∷ text) = map check_in (slice_split is_bar (byte ∷ text))

abbrev pub bytes_or_none : Result (List ℕ) FromHexError → List ℕ
bytes_or_none (Ok bytes) = bytes
bytes_or_none (Err e) = []

abbrev pub digest_in : List ℕ → List ℕ
digest_in digits = bytes_or_none (decode_of digits)

abbrev pub ends_field : ℕ → Bool
ends_field byte = byte == space || byte == line_feed

abbrev pub record_of : List ℕ → List ℕ → Option (List ℕ) → List ℕ → List ℕ → Record
record_of checks sha1 sha256 length moment = record {
  checks = checks_in checks;
  sha1 = digest_in sha1;
  sha256 = sha256;
  length = decimal length;
  moment = decimal moment;
}

-- the only record that a line of so many fields can be of
abbrev pub candidate : List (List ℕ) → Option Record
candidate (name ∷ format ∷ checks ∷ sha1 ∷ length ∷ moment ∷ nothing ∷ []) = Some
    (record_of checks sha1 None length moment)
candidate (name ∷ format ∷ checks ∷ sha1 ∷ sha256 ∷ length ∷ moment ∷ nothing ∷ []) = Some
    (record_of checks sha1 (Some (digest_in sha256)) length moment)
candidate _ = None

abbrev pub is_digest : ℕ → List ℕ → Bool
is_digest size digest = length digest == size && list_all (λ byte. nat_lt byte 256) digest

abbrev pub is_sha256 : Option (List ℕ) → Bool
is_sha256 None = true
is_sha256 (Some sha256) = is_digest 32 sha256

abbrev pub fits : Record → Bool
fits entry =
    is_digest 20 entry.sha1 && (is_sha256 entry.sha256
    && (nat_lt entry.length (2 ^ 64) && nat_lt entry.moment (2 ^ 64)))

abbrev pub if_line_is : List ℕ → Option Record → Option Record
if_line_is text None = None
if_line_is text (Some entry) = if text_eq text (record_text entry) && fits entry then Some entry else None

-- the record whose line this is, if it is one
abbrev pub record_in : List ℕ → Option Record
record_in text = if_line_is text (candidate (slice_split ends_field text))

abbrev pub if_gone_line_is : List ℕ → ℕ → Option ℕ
if_gone_line_is text moment = if text_eq text (gone_text moment) && nat_lt moment (2 ^ 64) then Some moment else None

abbrev pub third : List (List ℕ) → List ℕ
third (name ∷ format ∷ moment ∷ rest) = moment
third _ = []

-- the moment whose absence record this is, if it is one
abbrev pub gone_in : List ℕ → Option ℕ
gone_in text = if_gone_line_is text (decimal (third (slice_split ends_field text)))
