-- How a reader of replies reads a body of chunks.
use Rattle.std.specs.Prelude.{ℕ, ◌≡◌, ◌<◌, ◌++◌, length, take}
use Rattle.fault_place.specs.Place.{GoesOn, IsPlace}
use Rattle.http_wire.specs.declared.body_states.BodyState.{BodyState}
use Rattle.http_wire.specs.declared.body_places.BodyPlace.TheVariants.{ChunkSize, Whole, Refused}
use Rattle.http_wire.specs.declared.replies.ReplyErr.TheVariants.{BadChunk, BodyTooLong}
use Rattle.http_wire.specs.BodyBytes.{after_bytes, content_of}
use Rattle.http_wire.specs.Fields.{Bytes}
use Rattle.http_chunks.specs.Chunks.{IsChunks, IsChunkedBody}

-- where the body of a chunked reply begins, under a limit
abbrev pub chunked : ℕ → BodyState
chunked limit = record { place = ChunkSize 0 0; room = limit }

-- behind these bytes the reply is whole, with this content
pub record IsReadWhole (limit : ℕ) (bytes content : Bytes) : Type 0 where
  pub whole : (after_bytes (chunked limit) bytes).place ≡ Whole
  pub given : content_of (chunked limit) bytes ≡ content

-- the bytes begin with a body of chunks with this content
pub record BeginsChunks (bytes content : Bytes) : Type 0 where
  pub text : Bytes
  pub rest : Bytes
  pub cut : bytes ≡ text ++ rest
  pub chunks : IsChunks text content

-- behind these bytes the reply is refused for its chunks
abbrev pub IsBadChunk : ℕ → Bytes → Type 0
IsBadChunk limit bytes = (after_bytes (chunked limit) bytes).place ≡ Refused BadChunk

-- a byte of these can stand in no body of chunks behind those before it, which are none yet
pub record LeavesChunks (bytes : Bytes) : Type 0 where
  pub place : ℕ
  pub inside : place < length bytes
  pub is_place : IsPlace IsChunkedBody bytes place
  pub unfinished : IsChunkedBody (take place bytes) → ⊥

-- behind these bytes the reply is refused for the length of its content
abbrev pub IsTooLong : ℕ → Bytes → Type 0
IsTooLong limit bytes = (after_bytes (chunked limit) bytes).place ≡ Refused BodyTooLong

-- the bytes begin with some that begin a body of chunks, and the content of each such body is longer than the limit
pub record PassesLimit (limit : ℕ) (bytes : Bytes) : Type 0 where
  pub front : Bytes
  pub back : Bytes
  pub cut : bytes ≡ front ++ back
  pub begins : GoesOn IsChunkedBody front
  pub longer : (rest content : Bytes) → IsChunks (front ++ rest) content → limit < length content
