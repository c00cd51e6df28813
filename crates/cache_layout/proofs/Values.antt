-- The number of decimal digits, and ports.
use Rattle.std.proofs.Common.{◌≡◌, ℕ, ◌+◌, ◌-◌, ◌*◌, ◌/◌, ◌%◌, ◌^◌, ◌<◌, ◌≤◌, Bool, true, false, ◌&&◌, List, [], ◌∷◌, ◌++◌, refl, sym, ◌∙◌, ap, subst, arith}
use Rattle.std.specs.Prelude.{nat_le}
use Rattle.std.specs.Fmt.{decimal}
use Rattle.std.proofs.lemmas.Bool.{and_parts, and_from, le-leb, leb-true}
use Rattle.std.proofs.lemmas.Fmt.{decimal_by_steps}
use Rattle.std.proofs.lemmas.List.Sums.{fold-append}
use Rattle.std.proofs.lemmas.Slice.Eq.{bytes_eq-Decides}
use Rattle.fault_place.specs.Place.{IsPlace}
use Rattle.fault_place.specs.Reader.{Accepts}
use Rattle.ascii_bytes.specs.Digits as digits
use Rattle.res_base.specs.Names.{text_eq}
use Rattle.cache_layout.specs.Addresses.{IsPort, is_port}
use Rattle.cache_layout.specs.Fields.{IsNumber}
use Rattle.cache_layout.proofs.Literals.{same_place}

-- digits give the number back that was written
pub value_of : (n : ℕ) → n < 2 ^ 64 → digits.decimal (decimal n) ≡ n
value_of n small = decimal_by_steps (λ k ds. digits.decimal ds ≡ k)
    (λ k few. one k)
    (λ k ds many front. fold-append (λ number byte. number * 10 + (byte - 48)) 0 ds ((48 + k % 10) ∷ [])
    ∙ ap (λ number. number * 10 + ((48 + k % 10) - 48)) front ∙ more k)
    n small
  where
    one : (k : ℕ) → 0 * 10 + ((48 + k) - 48) ≡ k
    one k = omega arith

    more : (k : ℕ) → k / 10 * 10 + ((48 + k % 10) - 48) ≡ k
    more k = omega arith

pub port_number : (text : List ℕ) → is_port text ≡ true → Accepts (IsNumber 1 65535) text
port_number text is =
    let port = digits.decimal text in
    let parts = and_parts (text_eq text (decimal port)) (nat_le 1 port && nat_le port 65535) is in
    let ends = and_parts (nat_le 1 port) (nat_le port 65535) parts.1 in (
      port,
      record {
        whole = (bytes_eq-Decides text (decimal port)).0 parts.0;
        low = leb-true 1 port ends.0;
        high = leb-true port 65535 ends.1;
      },
    )

pub number_port : (text : List ℕ) → Accepts (IsNumber 1 65535) text → is_port text ≡ true
number_port text (n, is) = ap is_port is.whole ∙ by
  where
    small : n < 2 ^ 64
    small = let h = is.high in omega (arith, h)

    same : digits.decimal (decimal n) ≡ n
    same = value_of n small

    by : is_port (decimal n) ≡ true
    by = and_from (text_eq (decimal n) (decimal (digits.decimal (decimal n))))
        (nat_le 1 (digits.decimal (decimal n)) && nat_le (digits.decimal (decimal n)) 65535)
        ((bytes_eq-Decides (decimal n) (decimal (digits.decimal (decimal n)))).1 (ap (λ m. decimal m) (sym same)))
        (and_from (nat_le 1 (digits.decimal (decimal n))) (nat_le (digits.decimal (decimal n)) 65535)
        (ap (nat_le 1) same ∙ le-leb 1 n is.low) (ap (λ m. nat_le m 65535) same ∙ le-leb n 65535 is.high))

pub port_place : (text : List ℕ) (n : ℕ) → IsPlace (Accepts (IsNumber 1 65535)) text n → IsPlace IsPort text n
port_place text n at = same_place (Accepts (IsNumber 1 65535)) IsPort text n number_port port_number at
