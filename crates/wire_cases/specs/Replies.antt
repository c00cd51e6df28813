-- Answers of a reader of replies in a table.
use Rattle.std.specs.Prelude.{ℕ, List, Result, Ok, Err, codes}
use Rattle.http_wire.specs.declared.replies.Fed.{Fed}
use Rattle.http_wire.specs.declared.replies.Fed.TheVariants.{More, Done}
use Rattle.http_wire.specs.declared.replies.ReplyErr.{ReplyErr}
use Rattle.http_wire.specs.declared.replies.ReplyErr.TheVariants.{BadHead, HeadTooLong, BadLength, BadChunk, Encoded, EndedEarly, BodyTooLong, NoMemory}

-- the name in small letters
abbrev pub refusal_word : ReplyErr → List ℕ
refusal_word BadHead = codes "bad-head"
refusal_word HeadTooLong = codes "head-too-long"
refusal_word BadLength = codes "bad-length"
refusal_word BadChunk = codes "bad-chunk"
refusal_word Encoded = codes "encoded"
refusal_word EndedEarly = codes "ended-early"
refusal_word BodyTooLong = codes "body-too-long"
refusal_word NoMemory = codes "no-memory"

abbrev pub fed_word : Result Fed ReplyErr → List ℕ
fed_word (Ok More) = codes "more"
fed_word (Ok Done) = codes "done"
fed_word (Err refusal) = refusal_word refusal
