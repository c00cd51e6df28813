-- What a whole reply says: a file, that there is none, where to look instead, or a fault. By its status (RFC 9110 section 15).
use Rattle.std.specs.Prelude.{ℕ, ◌≡◌, ◌||◌, ◌==◌, [], Option, Some, None, if◌then◌else◌, codes, Result, Ok, Err}
use Rattle.http_wire.specs.declared.replies.ReplyErr.{ReplyErr}
use Rattle.http_wire.specs.declared.replies.ReplyErr.TheVariants.{BadHead, HeadTooLong, BadLength, BadChunk, Encoded, EndedEarly, BodyTooLong, NoMemory}
use Rattle.http_wire.specs.BodyStarts.{HeadData}
use Rattle.http_wire.specs.Fields.{Bytes, field_values}
use Rattle.http_wire.specs.Heads.{IsLocation}
use Rattle.http_wire.specs.Outcomes.{Outcome, IsOutcome}
use Rattle.http_visits.specs.declared.statuses.Kind.{Kind}
use Rattle.http_visits.specs.declared.statuses.Kind.TheVariants.{Whole, Gone, Elsewhere, Other}

-- a file; none; the place of another; more bytes than the limit, of which these are the first; or a fault behind these bytes
-- of a file
pub data Says : Type 0 where
  file : Bytes → Says
  absent : Says
  moved : Bytes → Says
  large : Bytes → Says
  faulty : Bytes → Says

abbrev pub kind_of : ℕ → Kind
kind_of status =
    if status == 200 then Whole
    else (if (status == 404) || (status == 410) then Gone
    else (if (status == 301) || (status == 302) || (status == 303) || (status == 307) ||
    (status == 308) then Elsewhere else Other))

-- a reply without a head is a fault
abbrev pub kind_of_seen : Option HeadData → Kind
kind_of_seen None = Other
kind_of_seen (Some seen) = kind_of seen.status

abbrev pub refused_says : ReplyErr → Bytes → Says
refused_says BadHead body = faulty body
refused_says HeadTooLong body = faulty body
refused_says BadLength body = faulty body
refused_says BadChunk body = faulty body
refused_says Encoded body = faulty body
refused_says EndedEarly body = faulty body
refused_says BodyTooLong body = large body
refused_says NoMemory body = faulty body

-- by how the reply ended
abbrev pub file_says : Result (Unit {0}) ReplyErr → Bytes → Says
file_says (Ok u) body = file body
file_says (Err e) body = refused_says e body

-- the Location of a head
abbrev pub IsSeenLocation : Option HeadData → Option Bytes → Type 0
IsSeenLocation None location = location ≡ None
IsSeenLocation (Some seen) location = IsLocation (field_values (codes "location") seen.fields) location

abbrev pub location_says : Option Bytes → Says
location_says None = faulty []
location_says (Some location) = moved location

-- by the kind of the status
abbrev pub IsPageBy : Kind → Option HeadData → Outcome → Says → Type 0
IsPageBy Whole seen outcome says = says ≡ file_says outcome.closed outcome.content
IsPageBy Gone seen outcome says = says ≡ absent
IsPageBy Elsewhere seen outcome says = (location : Option Bytes) × IsSeenLocation seen location
    × (says ≡ location_says location)
IsPageBy Other seen outcome says = says ≡ faulty []

-- what a whole reply says under a limit
abbrev pub IsPage : ℕ → Bytes → Says → Type 0
IsPage limit reply says = (outcome : Outcome) × IsOutcome limit reply outcome
    × IsPageBy (kind_of_seen outcome.seen) outcome.seen outcome says

-- the page is at fault
abbrev pub IsFault : Says → Type 0
IsFault (file body) = ⊥
IsFault absent = ⊥
IsFault (moved location) = ⊥
IsFault (large body) = ⊥
IsFault (faulty body) = Unit {0}
