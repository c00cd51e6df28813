-- A reply is refused for its length only where as much content as the limit has come.
use Rattle.std.proofs.Common.{◌≡◌, ℕ, ◌+◌, Bool, true, false, [], ◌∷◌, length, Option, Some, None, Result, Ok, Err, refl, sym, subst, arith, if◌then◌else◌, ◌==◌, ◌*◌, nat_le, nat_lt, ◌&&◌, ◌||◌, List, codes}
use Rattle.std.specs.Char.{is_ascii_hexdigit, digit_value}
use Rattle.std.proofs.lemmas.Bool.{false≢true}
use Rattle.http_wire.specs.declared.line_places.LinePlace.{LinePlace}
use Rattle.http_wire.specs.declared.line_places.LinePlace.TheVariants.{LineStart}
use Rattle.http_wire.specs.declared.body_states.BodyState.{BodyState}
use Rattle.http_wire.specs.declared.body_places.BodyPlace.{BodyPlace}
use Rattle.http_wire.specs.declared.body_places.BodyPlace.TheVariants.{UntilClose, ContentLeft, ChunkData, ChunkSize, ChunkSpace, ChunkExtension, ChunkLineFeed, DataReturn, DataLineFeed, Trailer, Whole, Refused}
use Rattle.http_wire.specs.declared.fields.LengthSaid.{LengthSaid}
use Rattle.http_wire.specs.declared.fields.LengthSaid.TheVariants.{NoLength, Exactly, Invalid}
use Rattle.http_wire.specs.declared.fields.TransferCoding.{TransferCoding}
use Rattle.http_wire.specs.declared.fields.TransferCoding.TheVariants.{NoCoding, Chunked, Unsupported}
use Rattle.http_wire.specs.declared.replies.Fed.{Fed}
use Rattle.http_wire.specs.declared.replies.ReplyErr.{ReplyErr}
use Rattle.http_wire.specs.declared.replies.ReplyErr.TheVariants.{BadHead, HeadTooLong, BadLength, BadChunk, Encoded, EndedEarly, BodyTooLong, NoMemory}
use Rattle.http_wire.specs.LinePlaces.{next_line_place, least_left}
use Rattle.http_wire.specs.BodyPlaces.{content_left, data_left, data_begun, within_line, after_size, trailer_place, after_extension, after_digit, is_content, after_content, after_framing, fed_at, closed_at}
use Rattle.http_wire.specs.BodyBytes.{after_content_byte, after_byte, after_bytes}
use Rattle.http_wire.specs.BodyStarts.{HeadData, place_by_fields}
use Rattle.http_wire.specs.Codings.{place_by_coding, codings_from, is_encoded}
use Rattle.http_wire.specs.ContentLengths.{place_by_length, lengths_from}
use Rattle.http_wire.specs.Fields.{Bytes, field_values}
use Rattle.http_wire.specs.Splits.{Split, in_head, no_head, behind_head, split_of}
use Rattle.http_wire.specs.Outcomes.{Outcome, outcome_by, body_start, IsOutcome}
use Rattle.http_wire.proofs.LawFacts.{body_room}

abbrev IsLongErr : ReplyErr → Type 0
IsLongErr BadHead = ⊥
IsLongErr HeadTooLong = ⊥
IsLongErr BadLength = ⊥
IsLongErr BadChunk = ⊥
IsLongErr Encoded = ⊥
IsLongErr EndedEarly = ⊥
IsLongErr BodyTooLong = Unit {0}
IsLongErr NoMemory = ⊥

abbrev IsLong : Result Fed ReplyErr → Type 0
IsLong (Ok fed) = ⊥
IsLong (Err e) = IsLongErr e

-- the place isn't that of a refusal for length
abbrev Short : BodyPlace → Type 0
Short place = IsLong (fed_at place) → ⊥

short_if : (t : Bool) (x y : BodyPlace) → Short x → Short y → Short (if t then x else y)
short_if true x y p q = p
short_if false x y p q = q

short_line : (read : ℕ) (place : BodyPlace) → Short place → Short (within_line read place)
short_line read place p = short_if (nat_le (read + 2) 65536) place (Refused BadChunk) p (λ h. h)

short_size : (size read b : ℕ) → Short (after_size size read b)
short_size size read b =
    short_if ((b == 32) || (b == 9)) (within_line read (ChunkSpace size read)) (if b == 59 then within_line read
    (ChunkExtension size read) else (if b == 13 then ChunkLineFeed size else Refused BadChunk)) (short_line read
    (ChunkSpace size read) (λ h. h))
    (short_if (b == 59) (within_line read (ChunkExtension size read))
    (if b == 13 then ChunkLineFeed size else Refused BadChunk) (short_line read (ChunkExtension size read) (λ h. h))
    (short_if (b == 13) (ChunkLineFeed size) (Refused BadChunk) (λ h. h) (λ h. h)))

short_extension : (size read b : ℕ) → Short (after_extension size read b)
short_extension size read b =
    short_if (b == 13) (ChunkLineFeed size) (if b == 10 then Refused BadChunk else within_line read
    (ChunkExtension size read)) (λ h. h) (short_if (b == 10) (Refused BadChunk) (within_line read
    (ChunkExtension size read)) (λ h. h) (short_line read (ChunkExtension size read) (λ h. h)))

short_digit : (digits size b : ℕ) → Short (after_digit digits size b)
short_digit digits size b = short_if (nat_lt digits 16 && is_ascii_hexdigit b) (ChunkSize (digits + 1)
    (size * 16 + digit_value b)) (if digits == 0 then Refused BadChunk else after_size size (digits + 1) b) (λ h. h)
    (short_if (digits == 0) (Refused BadChunk) (after_size size (digits + 1) b) (λ h. h) (short_size size
    (digits + 1) b))

short_trailer : (read : ℕ) (line : Option LinePlace) → Short (trailer_place read line)
short_trailer read None = λ h. h
short_trailer read (Some line) = short_if (nat_le (read + least_left line) 65536) (Trailer line read)
    (Refused BadChunk) (λ h. h) (λ h. h)

short_begun : (size : ℕ) → Short (data_begun size)
short_begun size = short_if (size == 0) (Trailer LineStart 0) (ChunkData size) (λ h. h) (λ h. h)

short_left : (n : ℕ) → Short (content_left n)
short_left n = short_if (n == 0) Whole (ContentLeft n) (λ h. h) (λ h. h)

short_data : (n : ℕ) → Short (data_left n)
short_data n = short_if (n == 0) DataReturn (ChunkData n) (λ h. h) (λ h. h)

-- no byte of framing is refused for length
framing_short : (place : BodyPlace) (b : ℕ) → IsLong (fed_at (after_framing place b)) → IsLong (fed_at place)
framing_short UntilClose b h = h
framing_short (ContentLeft n) b h = h
framing_short (ChunkData n) b h = h
framing_short (ChunkSize digits size) b h = absurd (short_digit digits size b h)
framing_short (ChunkSpace size n) b h = absurd (short_size size (n + 1) b h)
framing_short (ChunkExtension size n) b h = absurd (short_extension size (n + 1) b h)
framing_short (ChunkLineFeed size) b h = absurd (short_if (b == 10) (data_begun size) (Refused BadChunk)
    (short_begun size) (λ k. k) h)
framing_short DataReturn b h = absurd (short_if (b == 13) DataLineFeed (Refused BadChunk) (λ k. k) (λ k. k) h)
framing_short DataLineFeed b h = absurd (short_if (b == 10) (ChunkSize 0 0) (Refused BadChunk) (λ k. k) (λ k. k) h)
framing_short (Trailer line n) b h = absurd (short_trailer (n + 1) (next_line_place line b) h)
framing_short Whole b h = h
framing_short (Refused e) b h = h

content_short : (place : BodyPlace) → IsLong (fed_at (after_content place 1)) → IsLong (fed_at place)
content_short UntilClose h = h
content_short (ContentLeft n) h = absurd (short_left _ h)
content_short (ChunkData n) h = absurd (short_data _ h)
content_short (ChunkSize digits size) h = h
content_short (ChunkSpace size n) h = h
content_short (ChunkExtension size n) h = h
content_short (ChunkLineFeed size) h = h
content_short DataReturn h = h
content_short DataLineFeed h = h
content_short (Trailer line n) h = h
content_short Whole h = h
content_short (Refused e) h = h

-- a body that is refused for its length has no room left
abbrev IsFull : BodyState → Type 0
IsFull body = IsLong (fed_at body.place) → body.room ≡ 0

byte_full : (place : BodyPlace) (room b : ℕ) → (IsLong (fed_at place) → room ≡ 0)
    → IsFull (after_byte (record { place = place; room = room }) b)
byte_full place room b p = by_test (is_content place) refl
  where
    not_both : (q : BodyPlace) → is_content q ≡ true → IsLong (fed_at q) → ⊥
    not_both (Refused e) c h = false≢true c
    not_both UntilClose c h = h
    not_both (ContentLeft n) c h = h
    not_both (ChunkData n) c h = h
    not_both (ChunkSize digits size) c h = h
    not_both (ChunkSpace size n) c h = h
    not_both (ChunkExtension size n) c h = h
    not_both (ChunkLineFeed size) c h = h
    not_both DataReturn c h = h
    not_both DataLineFeed c h = h
    not_both (Trailer line n) c h = h
    not_both Whole c h = h

    by_test : (t : Bool) → is_content place ≡ t → IsFull (after_byte (record { place = place; room = room }) b)
    by_test false e = rw e (λ h. p (framing_short place b h))
    by_test true e = rw e (by_room (room == 0) refl)
      where
        by_room : (z : Bool) → (room == 0) ≡ z → IsFull (after_content_byte place room)
        by_room true z = rw z (λ h. refl)
        by_room false z = rw z (λ h. absurd (not_both place e (content_short place h)))

bytes_full : (body : BodyState) (xs : Bytes) → IsFull body → IsFull (after_bytes body xs)
bytes_full body [] p = p
bytes_full body (x ∷ xs) p = bytes_full (after_byte body x) xs (byte_full body.place body.room x p)

short_length : (said : LengthSaid) → Short (place_by_length said)
short_length NoLength = λ h. h
short_length (Exactly n) = short_left n
short_length Invalid = λ h. h

short_coding : (sofar : TransferCoding) (place : BodyPlace) → Short place → Short (place_by_coding sofar place)
short_coding NoCoding place p = p
short_coding Chunked place p = λ h. h
short_coding Unsupported place p = λ h. h

abbrev by_length : List (Bytes × Bytes) → BodyPlace
by_length fields = place_by_length (lengths_from NoLength (field_values (codes "content-length") fields))

abbrev framed : List (Bytes × Bytes) → BodyPlace
framed fields = place_by_coding (codings_from NoCoding (field_values (codes "transfer-encoding") fields))
    (by_length fields)

start_full : (limit : ℕ) (seen : Option HeadData) → IsFull (body_start limit seen)
start_full limit None = λ h. absurd h
start_full limit (Some seen) = λ h. absurd (short_if (seen.status == 200) (place_by_fields seen.fields) Whole
    (short_if (is_encoded (field_values (codes "content-encoding") seen.fields)) (Refused Encoded)
    (framed seen.fields) (λ k. k) (short_coding (codings_from NoCoding (field_values
    (codes "transfer-encoding") seen.fields)) (by_length seen.fields) (short_length (lengths_from NoLength
    (field_values (codes "content-length") seen.fields))))) (λ k. k) h)

full_split : (limit : ℕ) (split : Split) (seen : Option HeadData) → IsLong (outcome_by limit split seen).fed
    → length (outcome_by limit split seen).content ≡ limit
full_split limit (in_head line front) seen h = absurd h
full_split limit no_head seen h = absurd h
full_split limit (behind_head front rest) None h =
    let none = bytes_full (body_start limit None) rest (start_full limit None) h in
    omega (arith, none, body_room (body_start limit None) rest)
full_split limit (behind_head front rest) (Some seen) h =
    let none = bytes_full (body_start limit (Some seen)) rest (start_full limit (Some seen)) h in
    omega (arith, none, body_room (body_start limit (Some seen)) rest)

-- the end of the connection is answered so only where that was answered before
abbrev IsLongEnd : Result (Unit {0}) ReplyErr → Type 0
IsLongEnd (Ok u) = ⊥
IsLongEnd (Err e) = IsLongErr e

closed_long : (place : BodyPlace) → IsLongEnd (closed_at place) → IsLong (fed_at place)
closed_long UntilClose h = h
closed_long (ContentLeft n) h = h
closed_long (ChunkData n) h = h
closed_long (ChunkSize digits size) h = h
closed_long (ChunkSpace size n) h = h
closed_long (ChunkExtension size n) h = h
closed_long (ChunkLineFeed size) h = h
closed_long DataReturn h = h
closed_long DataLineFeed h = h
closed_long (Trailer line n) h = h
closed_long Whole h = h
closed_long (Refused e) h = h

closed_split : (limit : ℕ) (split : Split) (seen : Option HeadData) → IsLongEnd (outcome_by limit split seen).closed
    → IsLong (outcome_by limit split seen).fed
closed_split limit (in_head line front) seen h = h
closed_split limit no_head seen h = h
closed_split limit (behind_head front rest) seen h = closed_long (after_bytes (body_start limit seen) rest).place h

pub full_law : (limit : ℕ) (bytes : Bytes) (outcome : Outcome) → IsOutcome limit bytes outcome
    → outcome.closed ≡ Err BodyTooLong → length outcome.content ≡ limit
full_law limit bytes outcome h e =
    subst (λ k. IsLongEnd k.closed → length k.content ≡ limit) (sym h.2)
    (λ long. full_split limit (split_of bytes) h.0 (closed_split limit (split_of bytes) h.0 long)) (subst IsLongEnd
    (sym e) tt)
