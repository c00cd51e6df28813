-- What a reply says whose beginning was heard.
use Rattle.std.proofs.Common.{◌≡◌, ◌≢◌, ℕ, Bool, true, false, not, List, [], ◌∷◌, ◌++◌, length, Option, Some, None, Result, Ok, Err, IsSome, refl, sym, ap, ◌∙◌, subst, drop, take-append-drop}
use Rattle.std.proofs.lemmas.Bool.{false≢true, true≢false}
use Rattle.http_wire.specs.declared.reply_reader.ReplyReader.{ReplyReader}
use Rattle.http_wire.specs.declared.replies.ReplyErr.{ReplyErr}
use Rattle.http_wire.specs.declared.replies.ReplyErr.TheVariants.{BadHead, HeadTooLong, BadLength, BadChunk, Encoded, EndedEarly, BodyTooLong, NoMemory}
use Rattle.http_wire.specs.BodyStarts.{HeadData}
use Rattle.http_wire.specs.Fields.{Bytes}
use Rattle.http_wire.specs.Outcomes.{Outcome, IsOutcome, GoesOnTo, nothing_yet}
use Rattle.http_wire.specs.Readers.{HasRead, IsShown, shown_head}
use Rattle.http_link.specs.declared.hear.Step.{Step}
use Rattle.http_link.specs.declared.hear.Step.TheVariants.{More, Ended}
use Rattle.http_visits.specs.declared.statuses.Kind.{Kind}
use Rattle.http_visits.specs.declared.statuses.Kind.TheVariants.{Whole, Gone, Elsewhere, Other}
use Rattle.http_visits.specs.declared.pages.Page.{Page}
use Rattle.http_link.specs.declared.wire.Connection.{Connection}
use Rattle.http_link.specs.Hearing.{IsHearing, HearsFew, ended_of}
use Rattle.http_link.specs.declared.pages.Found.{Found}
use Rattle.http_link.specs.declared.pages.Found.TheVariants.{Opened, Absent, Moved, Fault}
use Rattle.http_link.specs.Openings.{IsOpen, IsEnded, IsTail, IsFilePage, IsFoundFile, IsFound}
use Rattle.http_visits.specs.Pages.{Says, faulty, moved, absent, kind_of_seen, IsPageBy, IsPage, IsFault, IsSeenLocation, file_says}
use Rattle.http_link.specs.Ends.{is_fault, is_file_end}

-- the laws of replies that a page rests on
pub record PageLaws : Type 0 where
  pub starts : (limit : ℕ) (bytes : Bytes) (outcome : Outcome) → IsOutcome limit bytes outcome
      → outcome.content ≢ [] → IsSome outcome.seen
  pub grows : (limit : ℕ) (bytes rest : Bytes) (outcome : Outcome) → IsOutcome limit bytes outcome
      → IsSome outcome.seen → GoesOnTo limit (bytes ++ rest) outcome
  pub one : (limit : ℕ) (bytes : Bytes) (one two : Outcome) → IsOutcome limit bytes one → IsOutcome limit bytes two
      → one ≡ two
  pub reads : (reader : ReplyReader) (limit : ℕ) (bytes : Bytes) (outcome : Outcome)
      → HasRead reader limit bytes outcome → IsOutcome limit bytes outcome
  pub shows : (reader : ReplyReader) (limit : ℕ) (bytes : Bytes) (outcome : Outcome)
      → HasRead reader limit bytes outcome → IsShown outcome.seen (shown_head reader)

-- where a file's content goes on, the whole reply has this head and this beginning
pub open_whole : (told : Option (List Page)) (connection : Option Connection) (reader : ReplyReader) (limit : ℕ)
    (reply : Bytes) (outcome : Outcome) (rows : List Page)
    → PageLaws → IsHearing told connection reader limit reply outcome → outcome.content ≢ [] → told ≡ Some rows
    → GoesOnTo limit reply outcome
open_whole told connection reader limit reply outcome rows laws h some is =
    let o = laws.reads reader limit h.bytes outcome h.read in
    let k = h.carried rows is in
    subst (λ all. GoesOnTo limit all outcome) (ap (λ front. front ++ drop k.at.received reply) k.so_far
    ∙ take-append-drop k.at.received reply)
    (laws.grows limit h.bytes (drop k.at.received reply) outcome o (laws.starts limit h.bytes outcome o some))

-- the head of the reply, and of the whole reply where pages are told
pub record Known (told : Option (List Page)) (reader : ReplyReader) (limit : ℕ) (reply : Bytes) : Type 0 where
  pub seen : Option HeadData
  pub shown : IsShown seen (shown_head reader)
  pub whole : (rows : List Page) → told ≡ Some rows → (whole : Outcome) × IsOutcome limit reply whole
      × (whole.seen ≡ seen)

pub known : (step : Step) (told : Option (List Page)) (connection : Option Connection) (reader : ReplyReader)
    (limit most : ℕ) (reply pending : Bytes)
    → PageLaws → HearsFew step told connection reader limit reply nothing_yet most [] pending → (step ≡ More
    → pending ≢ []) → Known told reader limit reply
known More told connection reader limit most reply pending laws h some =
    let on = h.hears in
    let content : on.after.content ≡ pending = on.goes_on ∙ sym on.gives in
    let nonempty : on.after.content ≢ [] = λ e. some refl (sym content ∙ e) in
    record {
      seen = on.after.seen;
      shown = laws.shows reader limit on.hearing.bytes on.after on.hearing.read;
      whole = λ rows is.
          let g = open_whole told connection reader limit reply on.after rows laws on.hearing nonempty is in
          (g.whole, g.is_outcome, g.same_head);
    }
known (Ended ended) told connection reader limit most reply pending laws h some =
    let last = h.hears in
    record { seen = last.whole.seen; shown = last.shown; whole = λ rows is. (last.whole, last.of_reply rows is, refl) }

-- the page, by the kind of its status
pub page_by : (told : Option (List Page)) (reader : ReplyReader) (limit : ℕ) (reply : Bytes) (kind : Kind)
    (says : Says) (rows : List Page)
    → (k : Known told reader limit reply) → kind ≡ kind_of_seen k.seen → ((whole : Outcome)
    → IsPageBy kind k.seen whole says) → told ≡ Some rows → IsPage limit reply says
page_by told reader limit reply kind says rows k is page e =
    let w = k.whole rows e in (
      w.0,
      w.1,
      subst (λ seen. IsPageBy (kind_of_seen seen) seen w.0 says) (sym w.2) (subst
          (λ q. IsPageBy q k.seen w.0 says) is (page w.0)),
    )

pub page_gone : (told : Option (List Page)) (reader : ReplyReader) (limit : ℕ) (reply : Bytes)
    → (k : Known told reader limit reply) → Gone ≡ kind_of_seen k.seen
    → (rows : List Page) → told ≡ Some rows → IsPage limit reply absent
page_gone told reader limit reply k is rows e = page_by told reader limit reply Gone absent rows k is (λ whole. refl) e

pub page_other : (told : Option (List Page)) (reader : ReplyReader) (limit : ℕ) (reply : Bytes)
    → (k : Known told reader limit reply) → Other ≡ kind_of_seen k.seen
    → (rows : List Page) → told ≡ Some rows → (says : Says) × IsPage limit reply says × IsFault says
page_other told reader limit reply k is rows e = (
  faulty [],
  page_by told reader limit reply Other
      (faulty []) rows k is (λ whole. refl) e,
  tt,
)

pub page_moved : (told : Option (List Page)) (reader : ReplyReader) (limit : ℕ) (reply location : Bytes)
    → (k : Known told reader limit reply) → Elsewhere ≡ kind_of_seen k.seen
    → IsSeenLocation k.seen (Some location) → (rows : List Page) → told ≡ Some rows
    → IsPage limit reply (moved location)
page_moved told reader limit reply location k is at rows e =
    page_by told reader limit reply Elsewhere (moved location) rows k is (λ whole. (Some location, at, refl)) e

pub page_nowhere : (told : Option (List Page)) (reader : ReplyReader) (limit : ℕ) (reply : Bytes)
    → (k : Known told reader limit reply) → Elsewhere ≡ kind_of_seen k.seen
    → IsSeenLocation k.seen None → (rows : List Page) → told ≡ Some rows
    → (says : Says) × IsPage limit reply says × IsFault says
page_nowhere told reader limit reply k is at rows e =
    (faulty [], page_by told reader limit reply Elsewhere (faulty []) rows k is (λ whole. (None, at, refl)) e, tt)

-- a file's page says so of each whole reply, of which there is one
pub page_file : (told : Option (List Page)) (reader : ReplyReader) (limit : ℕ) (reply : Bytes) → PageLaws
    → (k : Known told reader limit reply) → Whole ≡ kind_of_seen k.seen
    → (rows : List Page) → told ≡ Some rows → IsFilePage limit reply
page_file told reader limit reply laws k is rows e = λ whole o.
    let w = k.whole rows e in
    let same : whole.seen ≡ k.seen = ap (λ q. q.seen) (laws.one limit reply whole w.0 o w.1) ∙ w.2 in
    subst (λ seen. IsPageBy (kind_of_seen seen) seen whole (file_says whole.closed whole.content)) (sym same)
    (subst (λ q. IsPageBy q k.seen whole (file_says whole.closed whole.content)) is refl)

-- what came of a file's reply
pub tail_more : (told : Option (List Page)) (connection : Option Connection) (reader : ReplyReader) (limit most : ℕ)
    (reply pending : Bytes)
    → HearsFew More told connection reader limit reply nothing_yet most [] pending → pending ≢ []
    → IsOpen told connection reader limit reply pending
tail_more told connection reader limit most reply pending h some =
    let on = h.hears in
    record { outcome = on.after; hearing = on.hearing; same = on.goes_on ∙ sym on.gives; some = some }

pub tail_ended : (told : Option (List Page)) (connection : Option Connection) (reader : ReplyReader) (limit most : ℕ)
    (reply pending : Bytes) (ended : Result (Unit {0}) ReplyErr)
    → HearsFew (Ended ended) told connection reader limit reply nothing_yet most [] pending
    → IsEnded told limit reply pending ended
tail_ended told connection reader limit most reply pending ended h =
    let last = h.hears in
    let same : last.whole.content ≡ pending = last.goes_on ∙ sym last.gives in
    record {
      bytes = last.bytes;
      whole = last.whole;
      is_outcome = last.is_outcome;
      of_reply = last.of_reply;
      answer = last.answer;
      same = same;
      full = λ long. ap length (sym same) ∙ last.full long;
    }

pub tail_of : (step : Step) (told : Option (List Page)) (connection : Option Connection) (reader : ReplyReader)
    (limit most : ℕ) (reply pending : Bytes)
    → HearsFew step told connection reader limit reply nothing_yet most [] pending → (step ≡ More → pending ≢ [])
    → IsTail told connection reader limit reply pending (ended_of step)
tail_of More told connection reader limit most reply pending h some = tail_more told connection reader limit most
    reply pending h (some refl)
tail_of (Ended ended) told connection reader limit most reply pending h some = tail_ended told connection reader limit
    most reply pending ended h

-- a reply that ended otherwise, before any content, is a fault
fault_end : (ended : Result (Unit {0}) ReplyErr) → is_file_end (Some ended) ≡ false → IsFault (file_says ended [])
fault_end (Ok u) e = absurd (true≢false e)
fault_end (Err BadHead) e = tt
fault_end (Err HeadTooLong) e = tt
fault_end (Err BadLength) e = tt
fault_end (Err BadChunk) e = tt
fault_end (Err Encoded) e = tt
fault_end (Err EndedEarly) e = tt
fault_end (Err BodyTooLong) e = absurd (true≢false e)
fault_end (Err NoMemory) e = tt

pub fault_of : (step : Step) (told : Option (List Page)) (connection : Option Connection) (reader : ReplyReader)
    (limit most : ℕ) (reply pending : Bytes)
    → HearsFew step told connection reader limit reply nothing_yet most [] pending → (step ≡ More → pending ≢ [])
    → pending ≡ [] → is_file_end (ended_of step) ≡ false
    → (rows : List Page) → told ≡ Some rows → (whole : Outcome) × IsOutcome limit reply whole
    × IsFault (file_says whole.closed whole.content)
fault_of More told connection reader limit most reply pending h some none e rows is = absurd (some refl none)
fault_of (Ended ended) told connection reader limit most reply pending h some none e rows is =
    let last = h.hears in
    let same : last.whole.content ≡ [] = last.goes_on ∙ sym last.gives ∙ none in (
      last.whole,
      last.of_reply rows is,
      subst (λ content. IsFault (file_says last.whole.closed content)) (sym same) (subst (λ k. IsFault
          (file_says k [])) last.answer (fault_end ended e)),
    )

-- the fault of a file's page is one of the page
pub fault_page : (limit : ℕ) (reply : Bytes) → IsFilePage limit reply
    → (whole : Outcome) × IsOutcome limit reply whole × IsFault (file_says whole.closed whole.content)
    → (says : Says) × IsPage limit reply says × IsFault says
fault_page limit reply page w = (file_says w.0.closed w.0.content, (w.0, w.1, page w.0 w.1), w.2)

pub fault_is : (pending : Bytes) (ended : Option (Result (Unit {0}) ReplyErr)) → is_fault pending ended ≡ true
    → (pending ≡ []) × (is_file_end ended ≡ false)
fault_is [] ended e = (refl, not_true (is_file_end ended) e)
  where
    not_true : (b : Bool) → not b ≡ true → b ≡ false
    not_true true e = absurd (false≢true e)
    not_true false e = refl
fault_is (x ∷ pending) ended e = absurd (false≢true e)

pub no_fault : (pending : Bytes) (ended : Option (Result (Unit {0}) ReplyErr)) → is_fault pending ended ≡ false
    → pending ≡ [] → is_file_end ended ≡ true
no_fault [] ended e none = not_false (is_file_end ended) e
  where
    not_false : (b : Bool) → not b ≡ false → b ≡ true
    not_false true e = refl
    not_false false e = absurd (true≢false e)
no_fault (x ∷ pending) ended e none = absurd (false≢true (ap is_empty_not none))
  where
    is_empty_not : Bytes → Bool
    is_empty_not [] = true
    is_empty_not (y ∷ ys) = false

-- what was found of a file's page
pub found_whole : (told : Option (List Page)) (connection : Option Connection) (limit most : ℕ) (reply : Bytes)
    (found : Found)
    → ((rows : List Page) → told ≡ Some rows → IsFilePage limit reply)
    → IsFoundFile told connection limit most reply found → IsFound told connection limit most reply found
found_whole told connection limit most reply (Opened opening) page f = (f, page)
found_whole told connection limit most reply Absent page f = absurd f
found_whole told connection limit most reply (Moved location) page f = absurd f
found_whole told connection limit most reply Fault page f = λ rows is. fault_page limit reply (page rows is) (f rows is)
