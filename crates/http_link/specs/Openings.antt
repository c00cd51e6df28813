-- What is known of a reply that gives a file.
use Rattle.std.specs.Prelude.{ℕ, ◌≡◌, ◌≢◌, ◌≤◌, true, List, [], Option, Some, None, length, Result, Err}
use Rattle.http_wire.specs.declared.reply_reader.ReplyReader.{ReplyReader}
use Rattle.http_wire.specs.declared.replies.ReplyErr.{ReplyErr}
use Rattle.http_wire.specs.declared.replies.ReplyErr.TheVariants.{BodyTooLong}
use Rattle.http_wire.specs.Fields.{Bytes}
use Rattle.http_wire.specs.Outcomes.{Outcome, IsOutcome}
use Rattle.http_link.specs.declared.pages.Found.{Found}
use Rattle.http_link.specs.declared.pages.Found.TheVariants.{Opened, Absent, Moved, Fault}
use Rattle.http_visits.specs.declared.pages.Page.{Page}
use Rattle.http_link.specs.declared.wire.Connection.{Connection}
use Rattle.http_link.specs.Hearing.{IsHearing}
use Rattle.http_visits.specs.Pages.{Says, absent, moved, IsPage, IsFault, IsPageBy, file_says, kind_of_seen}
use Rattle.http_link.specs.Ends.{is_file_end}

-- more may come, and this is the content so far, which isn't empty
pub record IsOpen (told : Option (List Page)) (connection : Option Connection) (reader : ReplyReader) (limit : ℕ)
    (reply content : Bytes) : Type 0 where
  pub outcome : Outcome
  pub hearing : IsHearing told connection reader limit reply outcome
  pub same : outcome.content ≡ content
  pub some : content ≢ []

-- the reply ended so with this content; where pages are told, that is so of the whole reply
pub record IsEnded (told : Option (List Page)) (limit : ℕ) (reply content : Bytes) (ended : Result
    (Unit {0}) ReplyErr) : Type 0 where
  pub bytes : Bytes
  pub whole : Outcome
  pub is_outcome : IsOutcome limit bytes whole
  pub of_reply : (rows : List Page) → told ≡ Some rows → IsOutcome limit reply whole
  pub answer : ended ≡ whole.closed
  pub same : whole.content ≡ content
  pub full : ended ≡ Err BodyTooLong → length content ≡ limit

abbrev pub IsTail : Option (List Page) → Option Connection → ReplyReader → ℕ → Bytes → Bytes
    → Option (Result (Unit {0}) ReplyErr) → Type 0
IsTail told connection reader limit reply content None = IsOpen told connection reader limit reply content
IsTail told connection reader limit reply content (Some ended) = IsEnded told limit reply content ended

-- the reply is that of a file
abbrev pub IsFilePage : ℕ → Bytes → Type 0
IsFilePage limit reply =
    (whole : Outcome) → IsOutcome limit reply whole
    → IsPageBy (kind_of_seen whole.seen) whole.seen whole (file_says whole.closed whole.content)

-- a file is there only where a byte of it has come, or the reply ended as that of a file does; else the reply is at fault
abbrev pub IsFoundFile : Option (List Page) → Option Connection → ℕ → ℕ → Bytes → Found → Type 0
IsFoundFile told connection limit most reply (Opened opening) =
    IsTail told connection opening.reader limit reply opening.pending.items opening.ended
    × (length opening.pending.items ≤ most)
    × (opening.pending.items ≡ [] → is_file_end opening.ended ≡ true)
IsFoundFile told connection limit most reply Absent = ⊥
IsFoundFile told connection limit most reply (Moved location) = ⊥
IsFoundFile told connection limit most reply Fault =
    (rows : List Page) → told ≡ Some rows → (whole : Outcome) × IsOutcome limit reply whole
    × IsFault (file_says whole.closed whole.content)

-- what was found at a place, of which at most so many bytes have come
abbrev pub IsFound : Option (List Page) → Option Connection → ℕ → ℕ → Bytes → Found → Type 0
IsFound told connection limit most reply (Opened opening) =
    IsFoundFile told connection limit most reply (Opened opening) × ((rows : List Page) → told ≡ Some rows
    → IsFilePage limit reply)
IsFound told connection limit most reply Absent = (rows : List Page) → told ≡ Some rows → IsPage limit reply absent
IsFound told connection limit most reply (Moved location) = (rows : List Page) → told ≡ Some rows
    → IsPage limit reply (moved location)
IsFound told connection limit most reply Fault = (rows : List Page) → told ≡ Some rows
    → (says : Says) × IsPage limit reply says × IsFault says
