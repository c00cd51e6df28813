-- The head of a reply: a status line and fields (RFC 9112 sections 4 and 5), as `httparse` reads them in its default form.
use Rattle.std.specs.Prelude.{◌≡◌, ◌≤◌, List, [], ◌∷◌, Option, Some, None, length, map, codes, IsUtf8}
use Rattle.httparse.specs.Grammar.{ResponseHead, ReadsResponse, status_code}
use Rattle.httparse.specs.Spans.{name_and_value}
use Rattle.http_wire.specs.declared.replies.Head.{Head}
use Rattle.http_wire.specs.declared.heads.ParsedHead.{ParsedHead}
use Rattle.http_wire.specs.Fields.{Bytes, field_values}
use Rattle.http_wire.specs.BodyStarts.{HeadData, body_place}

abbrev pub head_data : ResponseHead → HeadData
head_data h = record { status = status_code h; fields = map name_and_value h.fields }

-- the bytes are, as a whole, this head, with at most 100 fields
pub record IsReplyHead (bytes : Bytes) (h : ResponseHead) : Type 0 where
  pub reads : ReadsResponse bytes h []
  pub few : length h.fields ≤ 100

-- what the bytes say as a head; nothing, where they are none
abbrev pub IsHeadOf : Bytes → Option HeadData → Type 0
IsHeadOf bytes None = (h : ResponseHead) → IsReplyHead bytes h → ⊥
IsHeadOf bytes (Some seen) = (h : ResponseHead) × IsReplyHead bytes h × (seen ≡ head_data h)

-- the Location of a head (RFC 9110 section 10.2.2): the first value of that name, where it is UTF-8
abbrev pub IsLocation : List Bytes → Option Bytes → Type 0
IsLocation [] None = Unit {0}
IsLocation [] (Some location) = ⊥
IsLocation (value ∷ more) None = IsUtf8 value → ⊥
IsLocation (value ∷ more) (Some location) = IsUtf8 value × (location ≡ value)

-- the head that is handed out says what was seen
pub record IsHead (seen : HeadData) (head : Head) : Type 0 where
  pub status : head.status ≡ seen.status
  pub location : IsLocation (field_values (codes "location") seen.fields) head.location

-- what was made of a head, where there is one
abbrev pub IsParsed : Option HeadData → Option ParsedHead → Type 0
IsParsed None None = Unit {0}
IsParsed None (Some parsed) = ⊥
IsParsed (Some seen) None = ⊥
IsParsed (Some seen) (Some parsed) = IsHead seen parsed.head × (parsed.start ≡ body_place seen)
