-- Worked rows.
use Rattle.std.specs.Prelude.{ℕ, ◌≡◌, [], ◌∷◌, ◌++◌, codes, refl, Ok, Err, Some, None}
use Rattle.http_wire.specs.declared.body_places.BodyPlace.TheVariants.{UntilClose, ContentLeft, ChunkSize, Whole, Refused}
use Rattle.http_wire.specs.declared.replies.Fed.TheVariants.{More, Done}
use Rattle.http_wire.specs.declared.replies.ReplyErr.TheVariants.{BadChunk, BadLength, BodyTooLong, EndedEarly, Encoded}
use Rattle.http_wire.specs.declared.body_states.BodyState.{BodyState}
use Rattle.http_wire.specs.BodyBytes.{content_of, after_bytes}
use Rattle.http_wire.specs.BodyPlaces.{fed_at, closed_at}
use Rattle.http_wire.specs.BodyStarts.{place_by_fields, body_place}
use Rattle.http_wire.specs.ContentLengths.{decimal}
use Rattle.http_wire.specs.Fields.{Bytes}
use Rattle.http_wire.specs.Splits.{split_of, behind_head}

-- builders: the end of a line, a chunked body and one of announced length, and a field
abbrev ends : Bytes
ends = 13 ∷ 10 ∷ []

abbrev chunked : ℕ → BodyState
chunked limit = record { place = ChunkSize 0 0; room = limit }

abbrev announced : ℕ → ℕ → BodyState
announced length limit = record { place = ContentLeft length; room = limit }

abbrev field : Bytes → Bytes → Bytes × Bytes
field name value = (name, value)

abbrev chunk_of_abc : Bytes
chunk_of_abc = codes "3" ++ ends ++ codes "abc" ++ ends

abbrev last_chunk : Bytes
last_chunk = codes "0" ++ ends ++ ends

-- a chunk of three bytes and the last chunk
content_of_chunks : content_of (chunked 9) (chunk_of_abc ++ last_chunk) ≡ codes "abc"
content_of_chunks = refl

chunks_are_done : fed_at (after_bytes (chunked 9) (chunk_of_abc ++ last_chunk)).place ≡ Ok Done
chunks_are_done = refl

chunks_without_last : closed_at (after_bytes (chunked 9) chunk_of_abc).place ≡ Err EndedEarly
chunks_without_last = refl

byte_past_chunk : fed_at (after_bytes (chunked 9) (codes "3" ++ ends ++ codes "abcd")).place ≡ Err BadChunk
byte_past_chunk = refl

-- sizes are hexadecimal, of either case
size_of_ten : content_of (chunked 99) (codes "a" ++ ends ++ codes "abcdefghij") ≡ codes "abcdefghij"
size_of_ten = refl

size_without_digits : fed_at (after_bytes (chunked 9) ends).place ≡ Err BadChunk
size_without_digits = refl

-- white space and an extension behind a size, a trailer behind the last chunk, and bytes behind the body
extended : content_of (chunked 9) (codes "3 ;x" ++ ends ++ codes "abc" ++ ends ++ codes "0" ++ ends ++ codes "T"
    ++ ends ++ ends ++ codes "r") ≡ codes "abc"
extended = refl

-- the limit counts content alone, and only where a further byte of it stands
content_past_limit : fed_at (after_bytes (chunked 2) (codes "3" ++ ends ++ codes "abc")).place ≡ Err BodyTooLong
content_past_limit = refl

content_at_limit : fed_at (after_bytes (chunked 2) (codes "3" ++ ends ++ codes "ab")).place ≡ Ok More
content_at_limit = refl

-- four bytes are announced and three come
too_few : closed_at (after_bytes (announced 4 9) (codes "abc")).place ≡ Err EndedEarly
too_few = refl

enough : closed_at (after_bytes (announced 3 9) (codes "abcd")).place ≡ Ok tt
enough = refl

enough_content : content_of (announced 3 9) (codes "abcd") ≡ codes "abc"
enough_content = refl

-- what fields say of a body
no_fields : place_by_fields [] ≡ UntilClose
no_fields = refl

one_length : place_by_fields (field (codes "Content-Length") (codes "3") ∷ []) ≡ ContentLeft 3
one_length = refl

no_content : place_by_fields (field (codes "content-length") (codes "0") ∷ []) ≡ Whole
no_content = refl

two_lengths : place_by_fields (field (codes "Content-Length") (codes "3") ∷ field (codes "content-length")
    (codes "4") ∷ []) ≡ Refused BadLength
two_lengths = refl

same_twice : place_by_fields (field (codes "Content-Length") (codes "3") ∷ field (codes "content-length")
    (codes "03") ∷ []) ≡ ContentLeft 3
same_twice = refl

coding_before_length : place_by_fields (field (codes "Content-Length") (codes "3") ∷ field
    (codes "Transfer-Encoding") (codes "Chunked") ∷ []) ≡ ChunkSize 0 0
coding_before_length = refl

other_coding : place_by_fields (field (codes "Transfer-Encoding") (codes "gzip, chunked") ∷ []) ≡ Refused BadLength
other_coding = refl

encoded_first : place_by_fields (field (codes "Transfer-Encoding") (codes "x") ∷ field (codes "Content-Encoding")
    (codes "gzip") ∷ []) ≡ Refused Encoded
encoded_first = refl

not_found : body_place (record { status = 404; fields = field (codes "Content-Length") (codes "x") ∷ [] }) ≡ Whole
not_found = refl

-- decimal numbers
leading_zeros : decimal (codes "00042") ≡ Some 42
leading_zeros = refl

greatest : decimal (codes "18446744073709551615") ≡ Some 18446744073709551615
greatest = refl

past_greatest : decimal (codes "18446744073709551616") ≡ None
past_greatest = refl

no_digit : decimal (codes "+1") ≡ None
no_digit = refl

-- the end of a head: empty lines before it don't count, and a line feed alone ends a line
abbrev head : Bytes
head = codes "HTTP/1.1 200 OK" ++ ends ++ codes "A: b" ++ (10 ∷ []) ++ ends

split : split_of (ends ++ head ++ codes "abc") ≡ behind_head (ends ++ head) (codes "abc")
split = refl
