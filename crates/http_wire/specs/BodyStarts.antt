-- Where the body behind a head begins (RFC 9112 section 6.3).
use Rattle.std.specs.Prelude.{ℕ, List, if◌then◌else◌, ◌==◌, codes}
use Rattle.http_wire.specs.declared.body_places.BodyPlace.{BodyPlace}
use Rattle.http_wire.specs.declared.body_places.BodyPlace.TheVariants.{Whole, Refused}
use Rattle.http_wire.specs.declared.replies.ReplyErr.TheVariants.{Encoded}
use Rattle.http_wire.specs.declared.fields.LengthSaid.TheVariants.{NoLength}
use Rattle.http_wire.specs.declared.fields.TransferCoding.TheVariants.{NoCoding}
use Rattle.http_wire.specs.Fields.{Bytes, field_values}
use Rattle.http_wire.specs.ContentLengths.{lengths_from, place_by_length}
use Rattle.http_wire.specs.Codings.{is_encoded, codings_from, place_by_coding}

-- the status of a reply, and the names and values of its fields in order
pub record HeadData : Type 0 where
  pub status : ℕ
  pub fields : List (Bytes × Bytes)

-- by the fields: the coding of the content first, then Transfer-Encoding, then Content-Length
abbrev pub place_by_fields : List (Bytes × Bytes) → BodyPlace
place_by_fields fields =
    if is_encoded (field_values (codes "content-encoding") fields) then Refused Encoded
    else place_by_coding (codings_from NoCoding (field_values (codes "transfer-encoding") fields))
    (place_by_length (lengths_from NoLength (field_values (codes "content-length") fields)))

-- a reply of another status than 200 ends with its head
abbrev pub body_place : HeadData → BodyPlace
body_place head = if head.status == 200 then place_by_fields head.fields else Whole
