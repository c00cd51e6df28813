-- The digest that a checksum file holds.
use Rattle.std.specs.Prelude.{ℕ, ◌+◌, ◌*◌, Bool, not, ◌==◌, Option, None, List, [], ◌∷◌, codes, length, find, unwrap_or}
use Rattle.std.specs.List.{slice_split}
use Rattle.std.specs.Option.{option_map}
use Rattle.ascii_bytes.specs.Classes.{is_hex_digit}
use Rattle.ascii_bytes.specs.Digits.{hex_digit}
use Rattle.res_base.specs.declared.reading.Check.{Check}
use Rattle.res_base.specs.declared.reading.Check.TheVariants as checks
use Rattle.res_base.specs.declared.reading.Digest.{Digest}
use Rattle.res_base.specs.declared.reading.Digest.TheVariants as kinds

abbrev pub is_other : ℕ → Bool
is_other byte = not (is_hex_digit byte)

-- The maximal runs of hexadecimal digits, in order, with an empty one wherever two other bytes meet.
abbrev pub digit_runs : List ℕ → List (List ℕ)
digit_runs text = slice_split is_other text

-- the first of them with this length
abbrev pub first_run : ℕ → List ℕ → Option (List ℕ)
first_run len text = find (λ run. length run == len) (digit_runs text)

-- the value of a digit
abbrev pub digit_value : ℕ → ℕ
digit_value byte = unwrap_or (hex_digit byte) 0

-- a byte for each two digits, the first of them the higher
abbrev pub from_digits : List ℕ → List ℕ
from_digits [] = []
from_digits (last ∷ []) = []
from_digits (high ∷ low ∷ digits) = (digit_value high * 16 + digit_value low) ∷ from_digits digits

-- the digest in a checksum file, where it holds one
abbrev pub digest_in : Check → List ℕ → Option Digest
digest_in checks.Sha1 text = option_map (λ run. kinds.Sha1 (from_digits run)) (first_run 40 text)
digest_in checks.Md5 text = option_map (λ run. kinds.Md5 (from_digits run)) (first_run 32 text)
digest_in checks.Sha256 text = option_map (λ run. kinds.Sha256 (from_digits run)) (first_run 64 text)
digest_in checks.NoCheck text = None

-- what the URL of a file's checksum file has after that of the file
abbrev pub suffix_of : Check → List ℕ
suffix_of checks.Sha1 = codes ".sha1"
suffix_of checks.Md5 = codes ".md5"
suffix_of checks.Sha256 = codes ".sha256"
suffix_of checks.NoCheck = []
