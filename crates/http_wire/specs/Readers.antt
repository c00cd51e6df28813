-- What a reader has read, and what it says of that.
use Rattle.std.specs.Prelude.{◌≡◌, ℕ, ◌<◌, ◌≤◌, ◌+◌, ◌++◌, length, Option, Some, None, Result, Ok, Err}
use Rattle.http_wire.specs.declared.body_states.BodyState.{BodyState}
use Rattle.http_wire.specs.declared.body_places.BodyPlace.TheVariants.{Refused}
use Rattle.http_wire.specs.declared.reply_reader.Phase.{Phase}
use Rattle.http_wire.specs.declared.reply_reader.Phase.TheVariants.{InHead, InBody}
use Rattle.http_wire.specs.declared.reply_reader.ReplyReader.{ReplyReader}
use Rattle.http_wire.specs.declared.replies.Head.{Head}
use Rattle.http_wire.specs.declared.replies.Fed.{Fed}
use Rattle.http_wire.specs.declared.replies.Fed.TheVariants.{More}
use Rattle.http_wire.specs.declared.replies.ReplyErr.{ReplyErr}
use Rattle.http_wire.specs.declared.replies.ReplyErr.TheVariants.{HeadTooLong}
use Rattle.http_wire.specs.BodyBytes.{after_bytes}
use Rattle.http_wire.specs.BodyPlaces.{fed_at}
use Rattle.http_wire.specs.BodyStarts.{HeadData}
use Rattle.http_wire.specs.Fields.{Bytes}
use Rattle.http_wire.specs.Heads.{IsHead}
use Rattle.http_wire.specs.Measures.{left_of}
use Rattle.http_wire.specs.Outcomes.{Outcome, outcome_by, body_start, IsSeen, IsOutcome}
use Rattle.http_wire.specs.Splits.{Split, in_head, no_head, behind_head, split_of}

-- the head that is handed out is the one that was seen
abbrev pub IsShown : Option HeadData → Option Head → Type 0
IsShown None None = Unit {0}
IsShown None (Some head) = ⊥
IsShown (Some seen) None = ⊥
IsShown (Some seen) (Some head) = IsHead seen head

-- the body stands behind the bytes of this split
abbrev pub IsBodyBehind : ℕ → Split → BodyState → Option HeadData → Type 0
IsBodyBehind limit (in_head line front) body seen = ⊥
IsBodyBehind limit no_head body seen = body.place ≡ Refused HeadTooLong
IsBodyBehind limit (behind_head front rest) body seen = body ≡ after_bytes (body_start limit seen) rest

-- a reader stands behind the bytes of this split, with these kept of the head
abbrev pub IsPhaseOf : ℕ → Split → Phase → Bytes → Option HeadData → Type 0
IsPhaseOf limit split (InHead line) front seen = (split ≡ in_head line front) × (length front < 65536)
IsPhaseOf limit split (InBody body) front seen = IsBodyBehind limit split body seen

-- a reader with this limit has read these bytes, and this is what they say
pub record HasRead (reader : ReplyReader) (limit : ℕ) (bytes : Bytes) (outcome : Outcome) : Type 0 where
  pub limit_is : reader.limit ≡ limit
  pub seen : Option HeadData
  pub is_seen : IsSeen (split_of bytes) seen
  pub outcome_is : outcome ≡ outcome_by limit (split_of bytes) seen
  pub phase_is : IsPhaseOf limit (split_of bytes) reader.phase reader.front.items seen
  pub shown : IsShown seen reader.head

abbrev pub IsInBody : Phase → Type 0
IsInBody (InHead line) = ⊥
IsInBody (InBody body) = Unit {0}

-- what `feed` answers where a reader stands
abbrev pub fed_by : Phase → Result Fed ReplyErr
fed_by (InHead line) = Ok More
fed_by (InBody body) = fed_at body.place

-- behind a refusal
abbrev pub refused_phase : ReplyErr → Phase
refused_phase e = InBody (record { place = Refused e; room = 0 })

-- the reader answers this refusal from now on
abbrev pub Refuses : ReplyReader → ReplyErr → Type 0
Refuses reader e = fed_by reader.phase ≡ Err e

-- the head that is handed out
abbrev pub shown_head : ReplyReader → Option Head
shown_head reader = reader.head

-- where a reader still wants more after so many bytes, it did so before, and there is less that it can take
abbrev pub IsNearer : ReplyReader → ReplyReader → ℕ → Type 0
IsNearer old now n = fed_by now.phase ≡ Ok More → (fed_by old.phase ≡ Ok More) × (left_of now + n ≤ left_of old)

-- a piece was read behind the bytes before it, and the content that it adds was appended
pub record Reads (old now : ReplyReader) (limit : ℕ) (bytes piece : Bytes) (before : Outcome)
    (into_old into_new : Bytes) : Type 0 where
  pub after : Outcome
  pub read : HasRead now limit (bytes ++ piece) after
  pub more : Bytes
  pub goes_on : after.content ≡ before.content ++ more
  pub few : length more ≤ length piece
  pub gives : into_new ≡ into_old ++ more
  pub nearer : IsNearer old now (length piece)

-- the same, this is answered, and where more may come there is less of it
pub record Feeds (old now : ReplyReader) (limit : ℕ) (bytes piece : Bytes) (before : Outcome)
    (into_old into_new : Bytes) (result : Result Fed ReplyErr) : Type 0 where
  pub after : Outcome
  pub read : HasRead now limit (bytes ++ piece) after
  pub answer : result ≡ after.fed
  pub more : Bytes
  pub goes_on : after.content ≡ before.content ++ more
  pub few : length more ≤ length piece
  pub gives : into_new ≡ into_old ++ more
  pub nearer : result ≡ Ok More → left_of now + length piece ≤ left_of old

-- what was appended is a beginning of what the content went on with
pub record GivesPart (before after into_old into_new : Bytes) : Type 0 where
  pub more : Bytes
  pub goes_on : after ≡ before ++ more
  pub rest : Bytes
  pub gives : into_new ++ rest ≡ into_old ++ more
  pub kept : length into_old ≤ length into_new

-- so it is for a piece, whatever was read before
abbrev pub GivesParts : ReplyReader → Bytes → Bytes → Bytes → Type 0
GivesParts old piece into_old into_new =
    (limit : ℕ) (bytes : Bytes) (before after : Outcome) → HasRead old limit bytes before
    → IsOutcome limit (bytes ++ piece) after
    → GivesPart before.content after.content into_old into_new
