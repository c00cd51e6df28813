-- What the bytes of a reply that have come so far say under a limit. It depends on the joined bytes alone, and not on how
-- they were cut.
use Rattle.std.specs.Prelude.{◌≡◌, ℕ, Bool, true, false, [], ◌++◌, Option, Some, None, Result, Ok, Err}
use Rattle.http_wire.specs.declared.body_states.BodyState.{BodyState}
use Rattle.http_wire.specs.declared.body_places.BodyPlace.TheVariants.{Refused}
use Rattle.http_wire.specs.declared.replies.Fed.{Fed}
use Rattle.http_wire.specs.declared.replies.Fed.TheVariants.{More, Done}
use Rattle.http_wire.specs.declared.replies.ReplyErr.{ReplyErr}
use Rattle.http_wire.specs.declared.replies.ReplyErr.TheVariants.{BadHead, HeadTooLong, BadLength, BadChunk, Encoded, EndedEarly, BodyTooLong, NoMemory}
use Rattle.http_wire.specs.BodyBytes.{after_bytes, content_of}
use Rattle.http_wire.specs.BodyPlaces.{fed_at, closed_at}
use Rattle.http_wire.specs.BodyStarts.{HeadData, body_place}
use Rattle.http_wire.specs.Fields.{Bytes}
use Rattle.http_wire.specs.Heads.{IsHeadOf}
use Rattle.http_wire.specs.Splits.{Split, in_head, no_head, behind_head, split_of}

-- what `feed` answers once the bytes have come, and `finish` if the connection ends here; the content so far; and the head
pub record Outcome : Type 0 where
  pub fed : Result Fed ReplyErr
  pub closed : Result (Unit {0}) ReplyErr
  pub content : Bytes
  pub seen : Option HeadData

-- where the body begins under a limit
abbrev pub body_start : ℕ → Option HeadData → BodyState
body_start limit None = record { place = Refused BadHead; room = limit }
body_start limit (Some seen) = record { place = body_place seen; room = limit }

-- once these bytes of the body have come
abbrev pub outcome_from : BodyState → Option HeadData → Bytes → Outcome
outcome_from start seen rest =
    record {
      fed = fed_at (after_bytes start rest).place;
      closed = closed_at (after_bytes start rest).place;
      content = content_of start rest;
      seen = seen;
    }

abbrev pub nothing_yet : Outcome
nothing_yet = record { fed = Ok More; closed = Err EndedEarly; content = []; seen = None }

abbrev pub no_head_found : Outcome
no_head_found = record { fed = Err HeadTooLong; closed = Err HeadTooLong; content = []; seen = None }

-- the head of bytes that are split so
abbrev pub IsSeen : Split → Option HeadData → Type 0
IsSeen (in_head line front) seen = seen ≡ None
IsSeen no_head seen = seen ≡ None
IsSeen (behind_head front rest) seen = IsHeadOf front seen

abbrev pub outcome_by : ℕ → Split → Option HeadData → Outcome
outcome_by limit (in_head line front) seen = nothing_yet
outcome_by limit no_head seen = no_head_found
outcome_by limit (behind_head front rest) seen = outcome_from (body_start limit seen) seen rest

-- what these bytes say under a limit
abbrev pub IsOutcome : ℕ → Bytes → Outcome → Type 0
IsOutcome limit bytes outcome =
    (seen : Option HeadData) × IsSeen (split_of bytes) seen × (outcome ≡ outcome_by limit (split_of bytes) seen)

-- the reply is whole or refused
abbrev pub IsFinalAnswer : Result Fed ReplyErr → Type 0
IsFinalAnswer (Ok More) = ⊥
IsFinalAnswer (Ok Done) = Unit {0}
IsFinalAnswer (Err e) = Unit {0}

abbrev pub IsFinal : Outcome → Type 0
IsFinal outcome = IsFinalAnswer outcome.fed

-- these bytes have the head that was seen, and the content so far is the beginning of theirs
pub record GoesOnTo (limit : ℕ) (bytes : Bytes) (outcome : Outcome) : Type 0 where
  pub whole : Outcome
  pub is_outcome : IsOutcome limit bytes whole
  pub same_head : whole.seen ≡ outcome.seen
  pub more : Bytes
  pub goes_on : whole.content ≡ outcome.content ++ more

-- what `finish` answers where the reply is whole or refused before the connection ends
abbrev pub closed_by : Result Fed ReplyErr → Result (Unit {0}) ReplyErr
closed_by (Ok More) = Err EndedEarly
closed_by (Ok Done) = Ok tt
closed_by (Err e) = Err e

abbrev pub is_memory : ReplyErr → Bool
is_memory BadHead = false
is_memory HeadTooLong = false
is_memory BadLength = false
is_memory BadChunk = false
is_memory Encoded = false
is_memory EndedEarly = false
is_memory BodyTooLong = false
is_memory NoMemory = true

abbrev pub wants_memory : Result Fed ReplyErr → Bool
wants_memory (Ok fed) = false
wants_memory (Err e) = is_memory e
