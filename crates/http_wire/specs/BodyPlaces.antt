-- Places in the body of a reply (RFC 9112 sections 6.3 and 7.1), byte by byte: what is content, and what frames it.
-- Signs by their numbers: 9 tab, 10 line feed, 13 carriage return, 32 space, 59 semicolon.
use Rattle.std.specs.Prelude.{ℕ, ◌<◌, ◌^◌, ◌+◌, ◌-◌, ◌*◌, ◌≤◌, Bool, true, false, ◌||◌, ◌&&◌, Option, Some, None, if◌then◌else◌, ◌==◌, nat_le, nat_lt, Result, Ok, Err}
use Rattle.std.specs.Char.{is_ascii_hexdigit, digit_value}
use Rattle.http_wire.specs.declared.body_places.BodyPlace.{BodyPlace}
use Rattle.http_wire.specs.declared.body_places.BodyPlace.TheVariants.{UntilClose, ContentLeft, ChunkData, ChunkSize, ChunkSpace, ChunkExtension, ChunkLineFeed, DataReturn, DataLineFeed, Trailer, Whole, Refused}
use Rattle.http_wire.specs.declared.line_places.LinePlace.{LinePlace}
use Rattle.http_wire.specs.declared.line_places.LinePlace.TheVariants.{LineStart}
use Rattle.http_wire.specs.declared.replies.ReplyErr.{ReplyErr}
use Rattle.http_wire.specs.declared.replies.ReplyErr.TheVariants.{BadChunk, EndedEarly}
use Rattle.http_wire.specs.declared.replies.Fed.{Fed}
use Rattle.http_wire.specs.declared.replies.Fed.TheVariants.{More, Done}
use Rattle.http_wire.specs.LinePlaces.{next_line_place, least_left}

-- the greatest number of bytes of a chunk's line, and of a trailer
abbrev pub line_limit : ℕ
line_limit = 65536

-- n bytes are left of a content of announced length
abbrev pub content_left : ℕ → BodyPlace
content_left n = if n == 0 then Whole else ContentLeft n

-- n bytes are left of the data of a chunk
abbrev pub data_left : ℕ → BodyPlace
data_left n = if n == 0 then DataReturn else ChunkData n

-- behind the line of a chunk of n bytes; the last chunk has none, and the trailer follows
abbrev pub data_begun : ℕ → BodyPlace
data_begun n = if n == 0 then Trailer LineStart 0 else ChunkData n

-- n bytes of a chunk's line were read, and at least two must still come
abbrev pub within_line : ℕ → BodyPlace → BodyPlace
within_line n place = if nat_le (n + 2) line_limit then place else Refused BadChunk

-- behind the digits of a size: white space, an extension or the end of the line, of which n bytes were read
abbrev pub after_size : ℕ → ℕ → ℕ → BodyPlace
after_size size n b =
    if (b == 32) || (b == 9) then within_line n (ChunkSpace size n)
    else (if b == 59 then within_line n (ChunkExtension size n) else
    (if b == 13 then ChunkLineFeed size else Refused BadChunk))

-- at a place in the lines of a trailer, of which n bytes were read
abbrev pub trailer_place : ℕ → Option LinePlace → BodyPlace
trailer_place n None = Whole
trailer_place n (Some line) = if nat_le (n + least_left line) line_limit then Trailer line n else Refused BadChunk

-- behind a byte in an extension, of which no byte ends a line; n bytes of the line were read
abbrev pub after_extension : ℕ → ℕ → ℕ → BodyPlace
after_extension size n b =
    if b == 13 then ChunkLineFeed size else (if b == 10 then Refused BadChunk else within_line n
    (ChunkExtension size n))

-- behind a byte in a size, which has 1 to 16 digits
abbrev pub after_digit : ℕ → ℕ → ℕ → BodyPlace
after_digit digits size b =
    if nat_lt digits 16 && is_ascii_hexdigit b then ChunkSize (digits + 1) (size * 16 + digit_value b)
    else (if digits == 0 then Refused BadChunk else after_size size (digits + 1) b)

-- the one byte that may stand here leads on
abbrev pub if_byte : ℕ → ℕ → BodyPlace → BodyPlace
if_byte b wanted next = if b == wanted then next else Refused BadChunk

-- behind a byte of the framing
abbrev pub after_framing : BodyPlace → ℕ → BodyPlace
after_framing UntilClose b = UntilClose
after_framing (ContentLeft n) b = ContentLeft n
after_framing (ChunkData n) b = ChunkData n
after_framing (ChunkSize digits size) b = after_digit digits size b
after_framing (ChunkSpace size n) b = after_size size (n + 1) b
after_framing (ChunkExtension size n) b = after_extension size (n + 1) b
after_framing (ChunkLineFeed size) b = if_byte b 10 (data_begun size)
after_framing DataReturn b = if_byte b 13 DataLineFeed
after_framing DataLineFeed b = if_byte b 10 (ChunkSize 0 0)
after_framing (Trailer line n) b = trailer_place (n + 1) (next_line_place line b)
after_framing Whole b = Whole
after_framing (Refused e) b = Refused e

-- the next byte is content
abbrev pub is_content : BodyPlace → Bool
is_content UntilClose = true
is_content (ContentLeft n) = true
is_content (ChunkData n) = true
is_content (ChunkSize digits size) = false
is_content (ChunkSpace size n) = false
is_content (ChunkExtension size n) = false
is_content (ChunkLineFeed size) = false
is_content DataReturn = false
is_content DataLineFeed = false
is_content (Trailer line n) = false
is_content Whole = false
is_content (Refused e) = false

-- behind k bytes of content
abbrev pub after_content : BodyPlace → ℕ → BodyPlace
after_content UntilClose k = UntilClose
after_content (ContentLeft n) k = content_left (n - k)
after_content (ChunkData n) k = data_left (n - k)
after_content (ChunkSize digits size) k = ChunkSize digits size
after_content (ChunkSpace size n) k = ChunkSpace size n
after_content (ChunkExtension size n) k = ChunkExtension size n
after_content (ChunkLineFeed size) k = ChunkLineFeed size
after_content DataReturn k = DataReturn
after_content DataLineFeed k = DataLineFeed
after_content (Trailer line n) k = Trailer line n
after_content Whole k = Whole
after_content (Refused e) k = Refused e

-- what `feed` answers here
abbrev pub fed_at : BodyPlace → Result Fed ReplyErr
fed_at UntilClose = Ok More
fed_at (ContentLeft n) = Ok More
fed_at (ChunkData n) = Ok More
fed_at (ChunkSize digits size) = Ok More
fed_at (ChunkSpace size n) = Ok More
fed_at (ChunkExtension size n) = Ok More
fed_at (ChunkLineFeed size) = Ok More
fed_at DataReturn = Ok More
fed_at DataLineFeed = Ok More
fed_at (Trailer line n) = Ok More
fed_at Whole = Ok Done
fed_at (Refused e) = Err e

-- the numbers of a place are in range: a size has at most 16 digits, and a line that goes on is not too long
abbrev pub InRange : BodyPlace → Type 0
InRange UntilClose = Unit {0}
InRange (ContentLeft n) = 0 < n
InRange (ChunkData n) = 0 < n
InRange (ChunkSize digits size) = (digits ≤ 16) × (size < 16 ^ digits)
InRange (ChunkSpace size n) = n + 2 ≤ 65536
InRange (ChunkExtension size n) = n + 2 ≤ 65536
InRange (ChunkLineFeed size) = Unit {0}
InRange DataReturn = Unit {0}
InRange DataLineFeed = Unit {0}
InRange (Trailer line n) = n + 1 ≤ 65536
InRange Whole = Unit {0}
InRange (Refused e) = Unit {0}

-- the next n bytes are all content
abbrev pub HoldsRun : BodyPlace → ℕ → Type 0
HoldsRun UntilClose n = Unit {0}
HoldsRun (ContentLeft left) n = n ≤ left
HoldsRun (ChunkData left) n = n ≤ left
HoldsRun (ChunkSize digits size) n = ⊥
HoldsRun (ChunkSpace size k) n = ⊥
HoldsRun (ChunkExtension size k) n = ⊥
HoldsRun (ChunkLineFeed size) n = ⊥
HoldsRun DataReturn n = ⊥
HoldsRun DataLineFeed n = ⊥
HoldsRun (Trailer line k) n = ⊥
HoldsRun Whole n = ⊥
HoldsRun (Refused e) n = ⊥

-- the reply is whole or refused: no further byte counts
abbrev pub is_final : BodyPlace → Bool
is_final UntilClose = false
is_final (ContentLeft left) = false
is_final (ChunkData left) = false
is_final (ChunkSize digits size) = false
is_final (ChunkSpace size k) = false
is_final (ChunkExtension size k) = false
is_final (ChunkLineFeed size) = false
is_final DataReturn = false
is_final DataLineFeed = false
is_final (Trailer line k) = false
is_final Whole = true
is_final (Refused e) = true

-- what the end of the connection is answered with
abbrev pub closed_at : BodyPlace → Result (Unit {0}) ReplyErr
closed_at UntilClose = Ok tt
closed_at (ContentLeft n) = Err EndedEarly
closed_at (ChunkData n) = Err EndedEarly
closed_at (ChunkSize digits size) = Err EndedEarly
closed_at (ChunkSpace size n) = Err EndedEarly
closed_at (ChunkExtension size n) = Err EndedEarly
closed_at (ChunkLineFeed size) = Err EndedEarly
closed_at DataReturn = Err EndedEarly
closed_at DataLineFeed = Err EndedEarly
closed_at (Trailer line n) = Err EndedEarly
closed_at Whole = Ok tt
closed_at (Refused e) = Err e
