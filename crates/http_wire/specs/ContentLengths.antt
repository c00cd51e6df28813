-- The length that Content-Length announces (RFC 9110 section 8.6): all its values are the same decimal number.
use Rattle.std.specs.Prelude.{ℕ, ◌+◌, ◌-◌, ◌*◌, ◌^◌, Bool, true, false, ◌&&◌, List, [], ◌∷◌, Option, Some, None, if◌then◌else◌, ◌==◌, nat_lt}
use Rattle.std.specs.Char.{is_ascii_digit}
use Rattle.http_wire.specs.declared.body_places.BodyPlace.{BodyPlace}
use Rattle.http_wire.specs.declared.body_places.BodyPlace.TheVariants.{UntilClose, Refused}
use Rattle.http_wire.specs.declared.replies.ReplyErr.TheVariants.{BadLength}
use Rattle.http_wire.specs.declared.fields.LengthSaid.{LengthSaid}
use Rattle.http_wire.specs.declared.fields.LengthSaid.TheVariants.{NoLength, Exactly, Invalid}
use Rattle.http_wire.specs.BodyPlaces.{content_left}
use Rattle.http_wire.specs.Fields.{Bytes}

-- a number with one more decimal digit, where that fits 64 bits; 48 is the digit 0
abbrev pub add_digit : ℕ → ℕ → Option ℕ
add_digit n b = if is_ascii_digit b && nat_lt (n * 10 + (b - 48)) (2 ^ 64) then Some (n * 10 + (b - 48)) else None

abbrev pub then_number : Option ℕ → (ℕ → Option ℕ) → Option ℕ
then_number None f = None
then_number (Some n) f = f n

-- the number whose first digits give n and whose further digits these are
abbrev pub decimal_from : List ℕ → ℕ → Option ℕ
decimal_from [] n = Some n
decimal_from (b ∷ bytes) n = then_number (add_digit n b) (decimal_from bytes)

-- the decimal number that a text is, where it fits 64 bits; zeros may lead
abbrev pub decimal : Bytes → Option ℕ
decimal [] = None
decimal (b ∷ bytes) = decimal_from (b ∷ bytes) 0

abbrev pub same_length : Option ℕ → ℕ → LengthSaid
same_length None n = Invalid
same_length (Some m) n = if m == n then Exactly n else Invalid

abbrev pub first_length : Option ℕ → LengthSaid
first_length None = Invalid
first_length (Some n) = Exactly n

-- with one more value
abbrev pub add_length : LengthSaid → Bytes → LengthSaid
add_length NoLength value = first_length (decimal value)
add_length (Exactly n) value = same_length (decimal value) n
add_length Invalid value = Invalid

-- with the value of one more field, where it has the name
abbrev pub length_if : Bool → LengthSaid → Bytes → LengthSaid
length_if true said value = add_length said value
length_if false said value = said

-- with all these values
abbrev pub lengths_from : LengthSaid → List Bytes → LengthSaid
lengths_from said [] = said
lengths_from said (value ∷ more) = lengths_from (add_length said value) more

-- where a body begins that isn't chunked: without a length it runs to the end of the connection
abbrev pub place_by_length : LengthSaid → BodyPlace
place_by_length NoLength = UntilClose
place_by_length (Exactly n) = content_left n
place_by_length Invalid = Refused BadLength
