-- The values of digits, and of numbers written in them.
use Rattle.std.specs.Prelude.{ℕ, ◌+◌, ◌-◌, ◌*◌, List, Option, Some, None, fold, if◌then◌else◌}
use Rattle.ascii_bytes.specs.Classes.{between, is_digit}

abbrev pub decimal_digit : ℕ → Option ℕ
decimal_digit byte = if is_digit byte then Some (byte - 48) else None

-- of either case
abbrev pub hex_digit : ℕ → Option ℕ
hex_digit byte =
    if is_digit byte then Some (byte - 48) else
    if between 65 70 byte then Some (byte - 55) else
    if between 97 102 byte then Some (byte - 87) else None

-- the number of which these are the decimal digits
abbrev pub decimal : List ℕ → ℕ
decimal = fold (λ number byte. number * 10 + (byte - 48)) 0
