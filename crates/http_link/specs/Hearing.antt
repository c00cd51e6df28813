-- How far a reply was heard.
use Rattle.std.specs.Prelude.{ℕ, ◌≡◌, ◌≤◌, ◌+◌, List, [], ◌++◌, Option, Some, None, length, take, Result, Err}
use Rattle.http_wire.specs.declared.reply_reader.ReplyReader.{ReplyReader}
use Rattle.http_wire.specs.declared.replies.ReplyErr.{ReplyErr}
use Rattle.http_wire.specs.declared.replies.ReplyErr.TheVariants.{BodyTooLong}
use Rattle.http_wire.specs.Fields.{Bytes}
use Rattle.http_wire.specs.Outcomes.{Outcome, IsOutcome}
use Rattle.http_wire.specs.Readers.{HasRead, IsShown, shown_head}
use Rattle.http_link.specs.declared.hear.Step.{Step}
use Rattle.http_link.specs.declared.hear.Step.TheVariants.{More, Ended}
use Rattle.http_visits.specs.declared.pages.Page.{Page}
use Rattle.http_link.specs.declared.wire.Connection.{Connection}
use Rattle.http_visits.specs.Replies.{reply_of}

-- the reply to a request, where the pages are told
abbrev pub reply_told : Option (List Page) → Bytes → Bytes → Bytes
reply_told None authority request = []
reply_told (Some rows) authority request = reply_of rows authority request

-- nothing is told, or what the wire tells
abbrev pub IsToldOf : Option (List Page) → Option (List Page) → Type 0
IsToldOf told pages = (rows : List Page) → told ≡ Some rows → pages ≡ Some rows

-- the connection carries this reply, of which these bytes were received
pub record Carries (rows : List Page) (connection : Option Connection) (reply received : Bytes) : Type 0 where
  pub at : Connection
  pub on : connection ≡ Some at
  pub is_reply : reply_of rows at.authority at.sent ≡ reply
  pub within : at.received ≤ length reply
  pub so_far : received ≡ take at.received reply

-- a reader has read bytes with this outcome; where pages are told, they are the bytes received of this reply
pub record IsHearing (told : Option (List Page)) (connection : Option Connection) (reader : ReplyReader) (limit : ℕ)
    (reply : Bytes) (outcome : Outcome) : Type 0 where
  pub bytes : Bytes
  pub read : HasRead reader limit bytes outcome
  pub carried : (rows : List Page) → told ≡ Some rows → Carries rows connection reply bytes

-- a reader has read some bytes
abbrev pub HasReadSome : ReplyReader → Type 0
HasReadSome reader = (limit : ℕ) × (bytes : Bytes) × (outcome : Outcome) × HasRead reader limit bytes outcome

-- the content goes on with what was appended, and more of the reply may come
pub record HearsOn (told : Option (List Page)) (connection : Option Connection) (now : ReplyReader) (limit : ℕ)
    (reply : Bytes) (before : Outcome) (into_old into_new : Bytes) : Type 0 where
  pub after : Outcome
  pub hearing : IsHearing told connection now limit reply after
  pub more : Bytes
  pub goes_on : after.content ≡ before.content ++ more
  pub gives : into_new ≡ into_old ++ more

-- the content goes on with what was appended, to its end, and this is how the reply ended; where pages are told, that is so
-- of the whole reply
pub record HearsLast (ended : Result (Unit {0}) ReplyErr) (told : Option (List Page)) (now : ReplyReader) (limit : ℕ)
    (reply : Bytes) (before : Outcome) (into_old into_new : Bytes) : Type 0 where
  pub bytes : Bytes
  pub whole : Outcome
  pub is_outcome : IsOutcome limit bytes whole
  pub of_reply : (rows : List Page) → told ≡ Some rows → IsOutcome limit reply whole
  pub answer : ended ≡ whole.closed
  pub full : ended ≡ Err BodyTooLong → length whole.content ≡ limit
  pub shown : IsShown whole.seen (shown_head now)
  pub more : Bytes
  pub goes_on : whole.content ≡ before.content ++ more
  pub gives : into_new ≡ into_old ++ more

-- by what came of it
abbrev pub Hears : Step → Option (List Page) → Option Connection → ReplyReader → ℕ → Bytes → Outcome → Bytes → Bytes
    → Type 0
Hears More told connection now limit reply before into_old into_new = HearsOn told connection now limit reply before
    into_old into_new
Hears (Ended ended) told connection now limit reply before into_old into_new = HearsLast ended told now limit reply
    before into_old into_new

-- the same, and at most so many bytes were appended
pub record HearsFew (step : Step) (told : Option (List Page)) (connection : Option Connection) (now : ReplyReader)
    (limit : ℕ) (reply : Bytes) (before : Outcome) (most : ℕ) (into_old into_new : Bytes) : Type 0 where
  pub hears : Hears step told connection now limit reply before into_old into_new
  pub few : length into_new ≤ length into_old + most

-- how a reply ended, unless more may come
abbrev pub ended_of : Step → Option (Result (Unit {0}) ReplyErr)
ended_of More = None
ended_of (Ended ended) = Some ended
