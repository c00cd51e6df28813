-- How much of a reply a reader can still take before the reply is whole or refused. Each byte lowers it: one of content
-- takes from the room of the limit, one of the head, of a chunk's line or of a trailer brings the end of that nearer.
use Rattle.std.specs.Prelude.{ℕ, ◌+◌, ◌-◌, ◌*◌, List, length}
use Rattle.http_wire.specs.declared.body_places.BodyPlace.{BodyPlace}
use Rattle.http_wire.specs.declared.body_places.BodyPlace.TheVariants.{UntilClose, ContentLeft, ChunkData, ChunkSize, ChunkSpace, ChunkExtension, ChunkLineFeed, DataReturn, DataLineFeed, Trailer, Whole, Refused}
use Rattle.http_wire.specs.declared.body_states.BodyState.{BodyState}
use Rattle.http_wire.specs.declared.reply_reader.Phase.{Phase}
use Rattle.http_wire.specs.declared.reply_reader.Phase.TheVariants.{InHead, InBody}
use Rattle.http_wire.specs.declared.reply_reader.ReplyReader.{ReplyReader}

-- at most so many bytes of framing come one after another from here on
abbrev pub framing_left : BodyPlace → ℕ
framing_left UntilClose = 0
framing_left (ContentLeft n) = 0
framing_left (ChunkData n) = 0
framing_left (Trailer line n) = 65537 - n
framing_left (ChunkLineFeed size) = 65538
framing_left (ChunkSpace size n) = 65539 + (65537 - n)
framing_left (ChunkExtension size n) = 65539 + (65537 - n)
framing_left (ChunkSize digits size) = 131077 + (17 - digits)
framing_left DataLineFeed = 131095
framing_left DataReturn = 131096
framing_left Whole = 0
framing_left (Refused e) = 0

-- more than any run of bytes of a head and of framing
abbrev pub no_content : ℕ
no_content = 300000

abbrev pub body_left : BodyState → ℕ
body_left body = body.room * (no_content + 1) + framing_left body.place

abbrev pub left_by : Phase → ℕ → List ℕ → ℕ
left_by (InHead line) limit front = limit * (no_content + 1) + (no_content - length front)
left_by (InBody body) limit front = body_left body

abbrev pub left_of : ReplyReader → ℕ
left_of reader = left_by reader.phase reader.limit reader.front.items
