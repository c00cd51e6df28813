-- How a body is coded: Content-Encoding (RFC 9110 section 8.4) and Transfer-Encoding (RFC 9112 section 6.1).
use Rattle.std.specs.Prelude.{Bool, true, false, not, List, [], ◌∷◌, if◌then◌else◌, codes}
use Rattle.std.specs.List.{list_any}
use Rattle.http_wire.specs.declared.body_places.BodyPlace.{BodyPlace}
use Rattle.http_wire.specs.declared.body_places.BodyPlace.TheVariants.{ChunkSize, Refused}
use Rattle.http_wire.specs.declared.replies.ReplyErr.TheVariants.{BadLength}
use Rattle.http_wire.specs.declared.fields.TransferCoding.{TransferCoding}
use Rattle.http_wire.specs.declared.fields.TransferCoding.TheVariants.{NoCoding, Chunked, Unsupported}
use Rattle.http_wire.specs.Fields.{Bytes, is_name}

-- one of these values of Content-Encoding isn't `identity`
abbrev pub is_encoded : List Bytes → Bool
is_encoded encodings = list_any (λ value. not (is_name (codes "identity") value)) encodings

-- with one more value of Transfer-Encoding: the only one that may stand is `chunked`, alone
abbrev pub add_coding : TransferCoding → Bytes → TransferCoding
add_coding NoCoding value = if is_name (codes "chunked") value then Chunked else Unsupported
add_coding Chunked value = Unsupported
add_coding Unsupported value = Unsupported

-- with the value of one more field, where it has the name
abbrev pub coding_if : Bool → TransferCoding → Bytes → TransferCoding
coding_if true sofar value = add_coding sofar value
coding_if false sofar value = sofar

-- with all these values
abbrev pub codings_from : TransferCoding → List Bytes → TransferCoding
codings_from sofar [] = sofar
codings_from sofar (value ∷ more) = codings_from (add_coding sofar value) more

-- where a body begins: a transfer coding counts before any other length
abbrev pub place_by_coding : TransferCoding → BodyPlace → BodyPlace
place_by_coding NoCoding other = other
place_by_coding Chunked other = ChunkSize 0 0
place_by_coding Unsupported other = Refused BadLength
