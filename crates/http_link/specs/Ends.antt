-- How the reply of a file ends.
use Rattle.std.specs.Prelude.{Bool, true, false, not, [], ◌∷◌, Option, Some, None, Result, Ok, Err}
use Rattle.http_wire.specs.declared.replies.ReplyErr.{ReplyErr}
use Rattle.http_wire.specs.declared.replies.ReplyErr.TheVariants.{BadHead, HeadTooLong, BadLength, BadChunk, Encoded, EndedEarly, BodyTooLong, NoMemory}
use Rattle.http_wire.specs.Fields.{Bytes}

-- the reply ended as that of a file does: whole, or cut at the limit
abbrev pub is_file_end : Option (Result (Unit {0}) ReplyErr) → Bool
is_file_end None = false
is_file_end (Some (Ok u)) = true
is_file_end (Some (Err BadHead)) = false
is_file_end (Some (Err HeadTooLong)) = false
is_file_end (Some (Err BadLength)) = false
is_file_end (Some (Err BadChunk)) = false
is_file_end (Some (Err Encoded)) = false
is_file_end (Some (Err EndedEarly)) = false
is_file_end (Some (Err BodyTooLong)) = true
is_file_end (Some (Err NoMemory)) = false

-- a reply that ended otherwise before its first byte of content
abbrev pub is_fault : Bytes → Option (Result (Unit {0}) ReplyErr) → Bool
is_fault [] ended = not (is_file_end ended)
is_fault (byte ∷ pending) ended = false
