-- Digests in hexadecimal digits with small letters.
use Rattle.std.proofs.Common.{◌≡◌, ◌⊎◌, inl, inr, ℕ, zero, suc, ◌+◌, ◌-◌, ◌*◌, ◌/◌, ◌%◌, ◌<◌, ◌≤◌, Bool, true, false, cond, not, ◌&&◌, ◌||◌, List, [], ◌∷◌, ◌++◌, length, take, drop, get_or, refl, sym, ◌∙◌, ap, subst, arith}
use Rattle.std.specs.Prelude.{◌==◌, Ok, nat_le, slice_index}
use Rattle.std.specs.List.{list_all}
use Rattle.std.proofs.lemmas.Bool.{and_parts, and_from, cases_lt, eq-eqb, eqb-true, leb-true, lt-leb, ne_eqb}
use Rattle.std.proofs.lemmas.List.{take-append-drop, length-append, length-take-le, take_all, take_more}
use Rattle.std.proofs.lemmas.List.Folds.{list_all-append}
use Rattle.fault_place.specs.Place.{GoesOn, IsPlace}
use Rattle.fault_place.specs.Reader.{Accepts}
use Rattle.hex.specs.Hex.{IsBytes, decode_pairs, decode_sized, encode_lower, encode_with, lower_digits}
use Rattle.hex.proofs.HexLemmas.{IsDigits-lower_digits, decode_pairs-encode_with, length-encode_with}
use Rattle.cache_layout.specs.Fields.{IsDigestText, StopsDigits, is_small_digit}
use Rattle.cache_layout.proofs.Literals.{same_place}
use Rattle.cache_layout.proofs.Named.{not_all}

-- a test of the first numbers, which computes
abbrev pub first_pass : (ℕ → Bool) → ℕ → Bool
first_pass test zero = true
first_pass test (suc n) = test n && first_pass test n

pub passes : (test : ℕ → Bool) (n k : ℕ) → first_pass test n ≡ true → k < n → test k ≡ true
passes test zero k h below = absurd (omega (arith, below))
passes test (suc n) k h below = by (cases_lt k n) (passes test n k (and_parts (test n) (first_pass test n) h).1)
  where
    by : ((k < n) ⊎ (n ≤ k)) → (k < n → test k ≡ true) → test k ≡ true
    by (inl under) front = front under
    by (inr top) _ =
        let e : k ≡ n = omega (arith, below, top) in
        ap test e ∙ (and_parts (test n) (first_pass test n) h).0

-- a digit of the table is a small one
pub table_digit : (d : ℕ) → d < 16 → is_small_digit (slice_index lower_digits d) ≡ true
table_digit d below = passes (λ k. is_small_digit (slice_index lower_digits k)) 16 d refl below

-- the value of a small digit
abbrev digit_of : ℕ → ℕ
digit_of byte = cond (nat_le 97 byte) (byte - 87) (byte - 48)

abbrev is_read_back : ℕ → Bool
is_read_back byte = not (is_small_digit byte)
    || (nat_le (digit_of byte) 15 && (slice_index lower_digits (digit_of byte) == byte))

small_digit_ends : (byte : ℕ) → is_small_digit byte ≡ true → byte < 103
small_digit_ends byte h = by (cases_lt byte 103)
  where
    none : (n m : ℕ) → m < n → nat_le n m ≡ false
    none n m less = lt-leb n m less

    by : ((byte < 103) ⊎ (103 ≤ byte)) → byte < 103
    by (inl below) = below
    by (inr past) =
        let digit : nat_le byte 57 ≡ false = none byte 57 (omega (arith, past)) in
        let letter : nat_le byte 102 ≡ false = none byte 102 (omega (arith, past)) in
        no_digit (nat_le 48 byte) (nat_le byte 57) (nat_le 97 byte) (nat_le byte 102) digit letter h
      where
        no_digit : (a b c d : Bool) → b ≡ false → d ≡ false → ((a && b) || (c && d)) ≡ true → byte < 103
        no_digit true true c d e f g = cc
        no_digit true false true true e f g = cc
        no_digit true false true false e f g = cc
        no_digit true false false d e f g = cc
        no_digit false b true true e f g = cc
        no_digit false b true false e f g = cc
        no_digit false b false d e f g = cc

or_right : (a b : Bool) → a ≡ true → (not a || b) ≡ true → b ≡ true
or_right true b e h = h
or_right false b e h = cc

record IsDigitOf (byte : ℕ) : Type 0 where
  value : ℕ
  small : value < 16
  back : slice_index lower_digits value ≡ byte

read_back : (byte : ℕ) → is_small_digit byte ≡ true → IsDigitOf byte
read_back byte h =
    let test = passes is_read_back 103 byte refl (small_digit_ends byte h) in
    let both = and_parts (nat_le (digit_of byte) 15) (slice_index lower_digits (digit_of byte) == byte)
    (or_right (is_small_digit byte) (nat_le (digit_of byte) 15 && (slice_index lower_digits (digit_of byte) == byte)) h test) in
    let few = leb-true (digit_of byte) 15 both.0 in
    record {
      value = digit_of byte;
      small = omega (arith, few);
      back = eqb-true (slice_index lower_digits (digit_of byte)) byte both.1;
    }

-- the text of bytes has small digits

bytes_tail : (b : ℕ) (bytes : List ℕ) → IsBytes (b ∷ bytes) → IsBytes bytes
bytes_tail b bytes h i = h (suc i)

pub encoded_digits : (bytes : List ℕ) → IsBytes bytes → list_all is_small_digit (encode_lower bytes) ≡ true
unfolding encode_with
encoded_digits [] h = refl
encoded_digits (b ∷ bytes) h =
    let small : b < 256 = h 0 in
    let high : b / 16 < 16 = omega (arith, small) in
    let low : b % 16 < 16 = omega arith in
    and_from (is_small_digit (slice_index lower_digits (b / 16)))
    (list_all is_small_digit (slice_index lower_digits (b % 16) ∷ encode_with lower_digits bytes))
    (table_digit (b / 16) high)
    (and_from (is_small_digit (slice_index lower_digits (b % 16)))
    (list_all is_small_digit (encode_with lower_digits bytes)) (table_digit (b % 16) low)
    (encoded_digits bytes (bytes_tail b bytes h)))

-- and small digits are the text of bytes

record IsEncoded (text : List ℕ) : Type 0 where
  bytes : List ℕ
  whole : text ≡ encode_lower bytes
  are : IsBytes bytes

bytes_cons : (b : ℕ) (bytes : List ℕ) → b < 256 → IsBytes bytes → IsBytes (b ∷ bytes)
bytes_cons b bytes small h zero = small
bytes_cons b bytes small h (suc i) = h i

pair_back : (high low : ℕ) → high < 16 → low < 16
    → ((high * 16 + low) / 16 ≡ high) × ((high * 16 + low) % 16 ≡ low) × (high * 16 + low < 256)
pair_back high low p q = (omega (arith, p, q), omega (arith, p, q), omega (arith, p, q))

encoded_pair : (high low : ℕ) (rest : List ℕ) → IsDigitOf high → IsDigitOf low → IsEncoded rest
    → IsEncoded (high ∷ (low ∷ rest))
unfolding encode_with
encoded_pair high low rest p q inner =
    let pair = pair_back p.value q.value p.small q.small in
    let h : high ≡ slice_index lower_digits ((p.value * 16 + q.value) / 16) =
    sym p.back ∙ ap (slice_index lower_digits) (sym pair.0) in
    let l : low ≡ slice_index lower_digits ((p.value * 16 + q.value) % 16) =
    sym q.back ∙ ap (slice_index lower_digits) (sym pair.1) in
    record {
      bytes = (p.value * 16 + q.value) ∷ inner.bytes;
      whole = ap (λ x. x ∷ (low ∷ rest)) h
          ∙ ap (λ x. slice_index lower_digits ((p.value * 16 + q.value) / 16) ∷ (x ∷ rest)) l
          ∙ ap (λ t. slice_index lower_digits ((p.value * 16 + q.value) / 16)
          ∷ (slice_index lower_digits ((p.value * 16 + q.value) % 16) ∷ t)) inner.whole;
      are = bytes_cons (p.value * 16 + q.value) inner.bytes pair.2 inner.are;
    }

encoded : (size : ℕ) (text : List ℕ) → list_all is_small_digit text ≡ true → length text ≡ 2 * size → IsEncoded text
unfolding encode_with
encoded size [] all len = record { bytes = []; whole = refl; are = λ i. none i }
  where
    none : (i : ℕ) → slice_index [] i < 256
    none i = omega arith
encoded size (a ∷ []) all len = let e : 1 ≡ 2 * size = len in absurd (omega (arith, e))
encoded zero (a ∷ (b ∷ rest)) all len = absurd (omega (arith, len))
encoded (suc size) (a ∷ (b ∷ rest)) all len =
    let first = and_parts (is_small_digit a) (list_all is_small_digit (b ∷ rest)) all in
    let second = and_parts (is_small_digit b) (list_all is_small_digit rest) first.1 in
    encoded_pair a b rest (read_back a first.0) (read_back b second.0) (encoded size rest second.1 (omega (arith, len)))

-- the grammar of digests by its digits
abbrev pub AreDigits : ℕ → List ℕ → Type 0
AreDigits digits text = (list_all is_small_digit text ≡ true) × (length text ≡ digits)

pub digits_are : (size : ℕ) (text : List ℕ) → Accepts (IsDigestText size) text → AreDigits (2 * size) text
digits_are size text (digest, is) = (
  ap (list_all is_small_digit) is.whole ∙ encoded_digits digest is.fits.1,
  ap (λ t. length t) is.whole ∙ length-encode_with lower_digits digest ∙ ap (λ n. 2 * n) is.fits.0,
)

pub are_digest : (size : ℕ) (text : List ℕ) → AreDigits (2 * size) text → Accepts (IsDigestText size) text
are_digest size text (all, len) =
    let inner = encoded size text all len in
    let twice : 2 * length inner.bytes ≡ 2 * size = sym (length-encode_with lower_digits inner.bytes)
    ∙ sym (ap (λ t. length t) inner.whole) ∙ len in
    (inner.bytes, record { whole = inner.whole; fits = (omega (arith, twice), inner.are) })

abbrev zeros : ℕ → List ℕ
zeros zero = []
zeros (suc n) = 48 ∷ zeros n

zeros_length : (n : ℕ) → length (zeros n) ≡ n
zeros_length zero = refl
zeros_length (suc n) = let e = zeros_length n in omega (arith, e)

zeros_small : (n : ℕ) → list_all is_small_digit (zeros n) ≡ true
zeros_small zero = refl
zeros_small (suc n) = zeros_small n

pub some_digest : (size : ℕ) → (text : List ℕ) × Accepts (IsDigestText size) text
some_digest size = (zeros (2 * size), are_digest size (zeros (2 * size)) (zeros_small (2 * size), zeros_length (2 * size)))

digits_stop : (digits : ℕ) (text : List ℕ) (place : ℕ) → StopsDigits digits text place
    → IsPlace (AreDigits digits) text place
digits_stop digits text place at = record {
  within = at.within;
  outside = out (cases_lt place (length text));
  goes_on = (
    zeros (digits - place),
    (
      list_all-append is_small_digit (take place text) (zeros (digits - place))
          ∙ and_from (list_all is_small_digit (take place text)) (list_all is_small_digit (zeros (digits - place))) at.before
          (zeros_small (digits - place)),
      (let e = length-append (take place text) (zeros (digits - place)) in
          let f = length-take-le place text at.within in
          let g = zeros_length (digits - place) in
          let h = at.few in
          omega (arith, e, f, g, h)),
    ),
  );
  no_more = λ inside (rest, are). too_far inside rest are (at.stops inside);
}
  where
    too_far : place < length text → (rest : List ℕ) → AreDigits digits (take (place + 1) text ++ rest)
        → ((is_small_digit (get_or text place 0) ≡ false) ⊎ (place ≡ digits)) → ⊥
    too_far inside rest are (inl never) = not_all is_small_digit text rest place inside never are.0
    too_far inside rest are (inr past) =
        let e = length-append (take (place + 1) text) rest in
        let f = length-take-le (place + 1) text (omega (arith, inside)) in
        let g = are.1 in
        absurd (omega (arith, e, f, g, past))

    out : ((place < length text) ⊎ (length text ≤ place)) → AreDigits digits text → ⊥
    out (inl inside) are =
        too_far inside (drop (place + 1) text)
        (subst (AreDigits digits) (sym (take-append-drop (place + 1) text)) are) (at.stops inside)
    out (inr end) are =
        let below = at.within in
        let is : place ≡ length text = omega (arith, end, below) in
        let few = at.ends is in
        let g = are.1 in
        absurd (omega (arith, is, few, g))

pub digest_stops : (size : ℕ) (text : List ℕ) (place : ℕ) → StopsDigits (2 * size) text place
    → IsPlace (Accepts (IsDigestText size)) text place
digest_stops size text place at = same_place (AreDigits (2 * size)) (Accepts (IsDigestText size)) text place
    (are_digest size) (digits_are size) (digits_stop (2 * size) text place at)

-- the ways in which a text stops to be so many digits

pub all_more : (text : List ℕ) (i : ℕ) → i < length text → list_all is_small_digit (take i text) ≡ true
    → is_small_digit (get_or text i 0) ≡ true → list_all is_small_digit (take (i + 1) text) ≡ true
all_more text i inside all digit =
    ap (list_all is_small_digit) (take_more text i 0 inside)
    ∙ list_all-append is_small_digit (take i text) (get_or text i 0 ∷ [])
    ∙ and_from (list_all is_small_digit (take i text)) (list_all is_small_digit (get_or text i 0 ∷ [])) all
    (rw digit refl)

pub stops_full : (digits : ℕ) (text : List ℕ) (i : ℕ) → i < length text → i ≡ digits
    → list_all is_small_digit (take i text) ≡ true → StopsDigits digits text i
stops_full digits text i inside full all = record {
  within = omega (arith, inside);
  few = omega (arith, full);
  before = all;
  stops = λ _. inr full;
  ends = λ end. absurd (omega (arith, inside, end));
}

pub stops_bad : (digits : ℕ) (text : List ℕ) (i : ℕ) → i < length text → i ≤ digits
    → list_all is_small_digit (take i text) ≡ true → is_small_digit (get_or text i 0) ≡ false
    → StopsDigits digits text i
stops_bad digits text i inside few all never = record {
  within = omega (arith, inside);
  few = few;
  before = all;
  stops = λ _. inl never;
  ends = λ end. absurd (omega (arith, inside, end));
}

pub stops_short : (digits : ℕ) (text : List ℕ) → length text < digits → list_all is_small_digit text ≡ true
    → StopsDigits digits text (length text)
stops_short digits text short all = record {
  within = omega arith;
  few = omega (arith, short);
  before = ap (list_all is_small_digit) (take_all (length text) text (omega arith)) ∙ all;
  stops = λ inside. absurd (omega (arith, inside));
  ends = λ _. short;
}

-- what `hex` reads of such digits
pub record IsRead (size : ℕ) (text : List ℕ) : Type 0 where
  pub digest : List ℕ
  pub decoded : decode_sized text size ≡ Ok digest
  pub is : IsDigestText size text digest

pub digest_read : (size : ℕ) (text : List ℕ) → AreDigits (2 * size) text → IsRead size text
digest_read size text (all, len) =
    let inner = encoded size text all len in
    let twice : 2 * length inner.bytes ≡ 2 * size = sym (length-encode_with lower_digits inner.bytes)
    ∙ sym (ap (λ t. length t) inner.whole) ∙ len in
    let even : (length text % 2 == 1) ≡ false = ne_eqb (length text % 2) 1 (λ e. absurd (omega (arith, e, len))) in
    let half : (length text / 2 == size) ≡ true = eq-eqb (length text / 2) size (omega (arith, len)) in
    let pairs : decode_pairs 0 text ≡ Ok inner.bytes = ap (decode_pairs 0) inner.whole
    ∙ decode_pairs-encode_with lower_digits IsDigits-lower_digits 0 inner.bytes inner.are in
    record {
      digest = inner.bytes;
      decoded = rw (even, half) pairs;
      is = record { whole = inner.whole; fits = (omega (arith, twice), inner.are) };
    }
