-- Pairs of digits, as the crate `hex` reads them.
use Rattle.std.proofs.Common.{◌≡◌, ℕ, ◌+◌, ◌*◌, ◌-◌, ◌%◌, ◌/◌, true, false, List, [], ◌∷◌, length, refl, arith}
use Rattle.std.specs.List.{list_all}
use Rattle.std.specs.Prelude.{◌==◌, Some, Ok}
use Rattle.std.proofs.lemmas.Bool.{and_parts}
use Rattle.std.proofs.lemmas.Bool.Decides.{nat_tests}
use Rattle.hex.specs.Hex.{hex_digit_value, decode_pairs, decode_sized}
use Rattle.ascii_bytes.specs.Classes.{is_hex_digit}
use Rattle.digest_check.specs.ChecksumFiles.{digit_value, from_digits}

digit_read : (byte : ℕ) → is_hex_digit byte ≡ true → hex_digit_value byte ≡ Some (digit_value byte)
digit_read byte digit = grind (arith, nat_tests)

pub pairs_read : (i : ℕ) (digits : List ℕ) (n : ℕ) → length digits ≡ 2 * n → list_all is_hex_digit digits ≡ true
    → decode_pairs i digits ≡ Ok (from_digits digits)
unfolding decode_pairs
pairs_read i [] n size all = refl
pairs_read i (last ∷ []) n size all = absurd (omega (arith, size))
pairs_read i (high ∷ low ∷ digits) n size all =
    let first = and_parts (is_hex_digit high) (list_all is_hex_digit (low ∷ digits)) all in
    let second = and_parts (is_hex_digit low) (list_all is_hex_digit digits) first.1 in
    let rest : length digits ≡ 2 * (n - 1) = omega (arith, size) in
    rw (digit_read high first.0, digit_read low second.0, pairs_read (i + 2) digits (n - 1) rest second.1) refl

pub sized_read : (digits : List ℕ) (n : ℕ) → length digits ≡ 2 * n → list_all is_hex_digit digits ≡ true
    → decode_sized digits n ≡ Ok (from_digits digits)
sized_read digits n size all =
    let even : (length digits % 2 == 1) ≡ false = grind (arith, nat_tests, size) in
    let half : (length digits / 2 == n) ≡ true = grind (arith, nat_tests, size) in
    rw (even, half) (pairs_read 0 digits n size all)
