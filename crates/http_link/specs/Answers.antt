-- What came of a URL, of the rest of a file, and of its next piece.
use Rattle.std.specs.Prelude.{ℕ, List, Option, Some, None, Result, Ok, Err}
use Rattle.http_wire.specs.declared.reply_reader.ReplyReader.{ReplyReader}
use Rattle.http_wire.specs.declared.replies.ReplyErr.{ReplyErr}
use Rattle.http_wire.specs.Fields.{Bytes}
use Rattle.link_base.specs.declared.link_errors.LinkErr.{LinkErr}
use Rattle.link_base.specs.declared.link_errors.LinkErr.TheVariants.{Failed}
use Rattle.http_visits.specs.declared.places.Place.{Place}
use Rattle.http_link.specs.declared.visits.Visited.{Visited}
use Rattle.http_link.specs.declared.visits.Visited.TheVariants.{Opened, Absent as Missing, Fault}
use Rattle.http_visits.specs.declared.pages.Page.{Page}
use Rattle.http_link.specs.declared.wire.Connection.{Connection}
use Rattle.http_link.specs.Hearing.{HasReadSome}
use Rattle.http_link.specs.Visited.{IsVisited}
use Rattle.http_visits.specs.Visits.{IsPlaceOf}

-- a visit from the place of a URL
pub record VisitedFrom (told : Option (List Page)) (connection : Option Connection) (limit : ℕ) (url : Bytes)
    (visited : Visited) : Type 0 where
  pub start : Place
  pub place : IsPlaceOf url start
  pub visit : IsVisited told connection limit 65536 start visited

-- of a fault nothing is said
abbrev pub IsVisitedAt : Option (List Page) → Option Connection → ℕ → Bytes → Visited → Type 0
IsVisitedAt told connection limit url (Opened opening) = VisitedFrom told connection limit url (Opened opening)
IsVisitedAt told connection limit url Missing = VisitedFrom told connection limit url Missing
IsVisitedAt told connection limit url Fault = Unit {0}

-- the answer of a call; without one it failed
abbrev pub settled : {T : Type 0} → Result (Option T) LinkErr → Result T LinkErr
settled (Ok (Some answer)) = Ok answer
settled (Ok None) = Err Failed
settled (Err e) = Err e

-- where more may come, a reader has read some bytes
abbrev pub ReadsOn : Option (Result (Unit {0}) ReplyErr) → ReplyReader → Type 0
ReadsOn None reader = ¬ ¬ (HasReadSome reader)
ReadsOn (Some ended) reader = Unit {0}
