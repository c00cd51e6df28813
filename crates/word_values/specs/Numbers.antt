-- Numbers in words: 1 to 20 decimal digits without a sign, with leading zeros if wanted.
use Rattle.std.specs.Prelude.{ℕ, Bool, List, Option, Some, None, Ok, ◌&&◌, length, nat_le, if◌then◌else◌}
use Rattle.std.specs.List.{list_all}
use Rattle.ascii_bytes.specs.Classes.{is_digit}
use Rattle.ascii_bytes.specs.Digits.{decimal}
use Rattle.word_values.specs.Refusals.{Read, or_refused}
use Rattle.word_values.specs.declared.refusals.WordKind.{WordKind}

abbrev pub is_number : List ℕ → Bool
is_number text = nat_le 1 (length text) && nat_le (length text) 20 && list_all is_digit text

abbrev pub number_between : ℕ → ℕ → List ℕ → Option ℕ
number_between least most text =
    if is_number text && (nat_le least (decimal text) && nat_le (decimal text) most) then Some (decimal text) else None

-- the number of an option, or the usual one where none is given
abbrev pub number_given : WordKind → ℕ → ℕ → ℕ → Option (List ℕ) → Read ℕ
number_given kind least most usual None = Ok usual
number_given kind least most usual (Some text) = or_refused kind (number_between least most text)
