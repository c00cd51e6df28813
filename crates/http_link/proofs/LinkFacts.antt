-- What a link over pages answers and keeps.
use Rattle.std.proofs.Common.{◌≡◌, ◌≢◌, ℕ, ◌+◌, ◌≤◌, List, [], ◌++◌, length, length-append, take, drop, Option, Some, None, true, Result, Ok, Err, IfOk, inl, refl, sym, ap, ◌∙◌, subst, append-nil, arith}
use Rattle.http_wire.specs.declared.reply_reader.ReplyReader.{ReplyReader}
use Rattle.http_wire.specs.declared.replies.ReplyErr.{ReplyErr}
use Rattle.http_wire.specs.declared.replies.ReplyErr.TheVariants.{BadHead, HeadTooLong, BadLength, BadChunk, Encoded, EndedEarly, BodyTooLong, NoMemory}
use Rattle.http_wire.specs.Fields.{Bytes}
use Rattle.http_wire.specs.Outcomes.{Outcome, IsOutcome}
use Rattle.link_base.specs.FilePaths.{IsFilePath}
use Rattle.link_base.specs.Links.{Rows, got_of, opened_of, FitsLimit, IsNext, IsWithinPiece, failed_after, file_after_piece}
use Rattle.link_base.specs.declared.link_errors.LinkErr.{LinkErr}
use Rattle.link_base.specs.declared.link_errors.LinkErr.TheVariants.{Failed, NoMemory as OutOfMemory}
use Rattle.link_base.specs.declared.links.Got.{Got}
use Rattle.link_base.specs.declared.links.Got.TheVariants.{Absent}
use Rattle.link_base.specs.declared.links.OpenFile.{OpenFile}
use Rattle.link_base.specs.declared.links.Opened.TheVariants.{Ready, Absent as NotThere}
use Rattle.link_base.specs.declared.links.Next.TheVariants.{Piece, End, TooLarge as PastLimit}
use Rattle.res_base.specs.Causes.{Rose}
use Rattle.res_base.specs.Paths.{url_at}
use Rattle.res_base.specs.World.{at}
use Rattle.http_link.specs.declared.hear.Step.{Step}
use Rattle.http_link.specs.declared.hear.Step.TheVariants.{More, Ended}
use Rattle.http_link.specs.declared.http_link.Reading.{Reading}
use Rattle.http_link.specs.declared.pages.Opening.{Opening}
use Rattle.http_visits.specs.declared.places.Place.{Place}
use Rattle.http_visits.specs.declared.pages.Page.{Page}
use Rattle.http_link.specs.declared.wire.Connection.{Connection}
use Rattle.http_link.specs.Agreement.{FitsFile, FileAgrees, ReadingAgrees, Agrees, PagesTell}
use Rattle.http_link.specs.declared.visits.Visited.{Visited}
use Rattle.http_link.specs.declared.visits.Visited.TheVariants.{Opened, Absent as Missing, Fault}
use Rattle.http_link.specs.Answers.{settled, IsVisitedAt}
use Rattle.http_link.specs.Faults.{SaysFault, IsFaultFound}
use Rattle.http_link.specs.Gots.{IsGot, IsGotOf, IsReady, got_said, end_of}
use Rattle.http_link.specs.Hearing.{IsToldOf, IsHearing, HearsFew, HearsLast, ended_of}
use Rattle.http_link.specs.Openings.{IsOpen, IsEnded, IsTail}
use Rattle.http_visits.specs.Pages.{Says, absent, file_says, IsFault}
use Rattle.http_link.specs.Ends.{is_file_end}
use Rattle.http_link.specs.Readings.{IsKnown, IsFullEnd, IsReadTo}
use Rattle.http_link.specs.Visited.{SaysFile, IsVisited}
use Rattle.http_visits.specs.Visits.{Visits, FitsWorld, PagesAgree, IsPlaceOf}
use Rattle.http_link.proofs.PageFacts.{PageLaws}
use Rattle.http_link.proofs.PieceFacts.{got_fits, absent_held, held_of, tail_begins, piece_next, whole_held, large_held, append_some}

-- the file of a visit fits what the world holds
pub fits_visit : (rows : List Page) (w : Rows) (address path : Bytes) (limit : ℕ) (start : Place) (reply : Bytes)
    → PagesAgree rows w → IsFilePath path → IsPlaceOf (url_at address path) start → SaysFile rows limit start reply
    → FitsFile (at w (url_at address path)) limit reply
fits_visit rows w address path limit start reply agree is place says = λ whole o. agree address path limit start
    (file_says whole.closed whole.content) is place (says whole o)

pub fits_ended : (pages : Option (List Page)) (rows : List Page) (held : Option Bytes) (limit : ℕ)
    (reply bytes : Bytes) (ended : Result (Unit {0}) ReplyErr)
    → FitsFile held limit reply → IsEnded pages limit reply bytes ended → pages ≡ Some rows
    → FitsWorld held limit (file_says ended bytes)
fits_ended pages rows held limit reply bytes ended fits e told =
    subst (λ k. FitsWorld held limit (file_says k bytes)) (sym e.answer)
    (subst (λ k. FitsWorld held limit (file_says e.whole.closed k)) e.same (fits e.whole (e.of_reply rows told)))

pub get_file : (held : Option Bytes) (limit : ℕ) (says : Says) (got : Option Got) → FitsWorld held limit says
    → IsGotOf says got → IfOk (settled (Ok got)) (λ g. g ≡ got_of held limit)
get_file held limit says None f s = tt
get_file held limit says (Some got) f s = got_fits held limit says got f s

got_limit_of : (got : Got) (ended : Result (Unit {0}) ReplyErr) (bytes : Bytes) (limit : ℕ)
    → IsGot (file_says ended bytes) got → length bytes ≤ limit → FitsLimit limit got
got_limit_of got (Ok u) bytes limit s few = subst (FitsLimit limit) (sym s) few
got_limit_of got (Err BadHead) bytes limit s few = absurd s
got_limit_of got (Err HeadTooLong) bytes limit s few = absurd s
got_limit_of got (Err BadLength) bytes limit s few = absurd s
got_limit_of got (Err BadChunk) bytes limit s few = absurd s
got_limit_of got (Err Encoded) bytes limit s few = absurd s
got_limit_of got (Err EndedEarly) bytes limit s few = absurd s
got_limit_of got (Err BodyTooLong) bytes limit s few = subst (FitsLimit limit) (sym s) tt
got_limit_of got (Err NoMemory) bytes limit s few = absurd s

pub got_limit : (got : Option Got) (ended : Result (Unit {0}) ReplyErr) (bytes : Bytes) (limit : ℕ)
    → IsGotOf (file_says ended bytes) got → length bytes ≤ limit → IfOk (settled (Ok got)) (FitsLimit limit)
got_limit None ended bytes limit s few = tt
got_limit (Some got) ended bytes limit s few = got_limit_of got ended bytes limit s few

pub ended_within : (limit : ℕ) (reply bytes : Bytes) (told : Option (List Page)) (ended : Result (Unit {0}) ReplyErr)
    → ((limit : ℕ) (bytes : Bytes) (outcome : Outcome) → IsOutcome limit bytes outcome
    → length outcome.content ≤ limit) → IsEnded told limit reply bytes ended → length bytes ≤ limit
ended_within limit reply bytes told ended law e = omega
    (arith, law limit e.bytes e.whole e.is_outcome, ap length e.same)

-- a tail that has ended
pub tail_is_ended : (told : Option (List Page)) (connection : Option Connection) (reader : ReplyReader) (limit : ℕ)
    (reply content : Bytes) (tail : Option (Result (Unit {0}) ReplyErr)) (ended : Result (Unit {0}) ReplyErr)
    → tail ≡ Some ended → IsTail told connection reader limit reply content tail
    → IsEnded told limit reply content ended
tail_is_ended told connection reader limit reply content tail ended e t = subst
    (IsTail told connection reader limit reply content) e t

-- opening a file
pub open_there : (pages : Option (List Page)) (connection : Option Connection) (reader : ReplyReader) (limit : ℕ)
    (reply pending : Bytes) (ended : Option (Result (Unit {0}) ReplyErr)) (rows : List Page) (held : Option Bytes)
    → PageLaws → IsTail pages connection reader limit reply pending ended → (pending ≡ []
    → is_file_end ended ≡ true) → pages ≡ Some rows → FitsFile held limit reply → Ready ≡ opened_of held
open_there pages connection reader limit reply pending ended rows held laws tail opens told fits =
    sym (ap opened_of (held_of pages connection reader limit reply pending ended rows held laws tail opens told fits).1)

pub open_agrees : (pages : Option (List Page)) (connection : Option Connection) (w : Rows) (file : OpenFile)
    (reader : ReplyReader) (reply pending : Bytes) (ended : Option (Result (Unit {0}) ReplyErr)) (rows : List Page)
    → PageLaws → file.given ≡ 0 → IsTail pages connection reader file.limit reply pending ended → (pending ≡ []
    → is_file_end ended ≡ true) → pages ≡ Some rows
    → FitsFile (at w file.url) file.limit reply → (start : Place) → IsPlaceOf file.url start
    → ((rows : List Page) → pages ≡ Some rows → SaysFile rows file.limit start reply)
    → FileAgrees pages connection w file reader pending ended
open_agrees pages connection w file reader reply pending ended rows laws none tail opens told fits start place says =
    let held = held_of pages connection reader file.limit reply pending ended rows
    (at w file.url) laws tail opens told fits in
    record {
      held = held.0;
      there = held.1;
      given = [];
      as_long = sym none;
      reply = reply;
      tail = tail;
      fits = λ rows told. subst (λ k. FitsFile k file.limit reply) held.1 fits;
      start = start;
      place = place;
      says = says;
    }

pub agrees_reading : (pages : Option (List Page)) (connection : Option Connection) (w : Rows) (reading : Reading)
    (file : OpenFile) (opening : Opening) → reading.file ≡ file → reading.opening ≡ opening
    → FileAgrees pages connection w file opening.reader opening.pending.items opening.ended
    → FileAgrees pages connection w reading.file reading.opening.reader reading.opening.pending.items
    reading.opening.ended
agrees_reading pages connection w reading file opening e o a =
    subst (λ k. FileAgrees pages connection w reading.file k.reader k.pending.items k.ended) (sym o)
    (subst (λ k. FileAgrees pages connection w k opening.reader opening.pending.items opening.ended) (sym e) a)

-- more of a reply was heard
tail_on : (step : Step) (pages : Option (List Page)) (connection : Option Connection) (reader : ReplyReader)
    (limit most : ℕ) (reply given pending : Bytes) (before : Outcome)
    → before.content ≡ given → given ≢ [] → HearsFew step pages connection reader limit reply before most [] pending
    → IsTail pages connection reader limit reply (given ++ pending) (ended_of step)
tail_on More pages connection reader limit most reply given pending before same some h =
    let on = h.hears in
    let gives : pending ≡ on.more = on.gives in
    record {
      outcome = on.after;
      hearing = on.hearing;
      same = on.goes_on ∙ ap (λ front. front ++ on.more) same ∙ ap (λ more. given ++ more) (sym gives);
      some = append_some given pending some;
    }
tail_on (Ended ended) pages connection reader limit most reply given pending before same some h =
    let last = h.hears in
    let gives : pending ≡ last.more = last.gives in
    let whole : last.whole.content ≡ given ++ pending = last.goes_on ∙ ap (λ front. front ++ last.more) same
    ∙ ap (λ more. given ++ more) (sym gives) in
    record {
      bytes = last.bytes;
      whole = last.whole;
      is_outcome = last.is_outcome;
      of_reply = last.of_reply;
      answer = last.answer;
      same = whole;
      full = λ long. ap length (sym whole) ∙ last.full long;
    }

pub refill_agrees : (pages : Option (List Page)) (old_at connection : Option Connection) (w : Rows) (file : OpenFile)
    (old reader : ReplyReader) (step : Step) (most : ℕ) (waiting pending : Bytes) (ended : Option (Result
    (Unit {0}) ReplyErr))
    → waiting ≡ [] → ended ≡ None
    → ((told : Option (List Page)) (limit : ℕ) (reply : Bytes) (before : Outcome) → IsToldOf told pages
    → IsHearing told old_at old limit reply before
    → HearsFew step told connection reader limit reply before most [] pending)
    → FileAgrees pages old_at w file old waiting ended
    → FileAgrees pages connection w file reader pending (ended_of step)
refill_agrees pages old_at connection w file old reader step most waiting pending ended none more steps a =
    let tail : IsOpen pages old_at old file.limit a.reply (a.given
    ++ waiting) = subst (IsTail pages old_at old file.limit a.reply (a.given ++ waiting)) more a.tail in
    let all : a.given ++ waiting ≡ a.given = ap (λ k. a.given ++ k) none ∙ append-nil a.given in
    record {
      held = a.held;
      there = a.there;
      given = a.given;
      as_long = a.as_long;
      reply = a.reply;
      tail = tail_on step pages connection reader file.limit most a.reply a.given pending tail.outcome (tail.same
          ∙ all) (λ e. tail.some (all ∙ e))
          (steps pages file.limit a.reply tail.outcome (λ rows e. e) tail.hearing);
      fits = a.fits;
      start = a.start;
      place = a.place;
      says = a.says;
    }

-- a piece that waited was given
pub given_agrees : (pages : Option (List Page)) (connection : Option Connection) (w : Rows) (file : OpenFile)
    (reader : ReplyReader) (piece : Bytes) (ended : Option (Result (Unit {0}) ReplyErr))
    → FileAgrees pages connection w file reader piece ended
    → FileAgrees pages connection w (record { url = file.url; limit = file.limit; given = file.given + length piece })
    reader [] ended
given_agrees pages connection w file reader piece ended a =
    record {
      held = a.held;
      there = a.there;
      given = a.given ++ piece;
      as_long = length-append a.given piece ∙ ap (λ k. k + length piece) a.as_long;
      reply = a.reply;
      tail = subst (λ content. IsTail pages connection reader file.limit a.reply content ended) (sym (append-nil
          (a.given ++ piece))) a.tail;
      fits = a.fits;
      start = a.start;
      place = a.place;
      says = a.says;
    }

pub piece_answers : (pages : Option (List Page)) (connection : Option Connection) (w : Rows) (file : OpenFile)
    (reader : ReplyReader) (piece : Bytes) (ended : Option (Result (Unit {0}) ReplyErr)) (rows : List Page)
    → PageLaws → pages ≡ Some rows → FileAgrees pages connection w file reader piece ended
    → IsNext file (at w file.url) (Ok Piece) piece
piece_answers pages connection w file reader piece ended rows laws told a =
    subst (λ k. IsNext file k (Ok Piece) piece) (sym a.there)
    (subst (λ n. piece ≡ take (length piece) (drop n a.held)) a.as_long
    (piece_next a.given piece a.held (tail_begins pages connection reader file.limit a.reply (a.given
    ++ piece) ended rows a.held laws a.tail told (a.fits rows told))))

pub end_answers : (pages : Option (List Page)) (connection : Option Connection) (w : Rows) (file : OpenFile)
    (reader : ReplyReader) (waiting : Bytes) (ended : Option (Result (Unit {0}) ReplyErr)) (rows : List Page)
    → waiting ≡ [] → ended ≡ Some (Ok tt) → pages ≡ Some rows
    → FileAgrees pages connection w file reader waiting ended → (piece : Bytes)
    → IsNext file (at w file.url) (Ok End) piece
end_answers pages connection w file reader waiting ended rows none is told a piece =
    let e = tail_is_ended pages connection reader file.limit a.reply (a.given ++ waiting) ended (Ok tt) is a.tail in
    let same = whole_held a.held (a.given
    ++ waiting) file.limit (fits_ended pages rows (Some a.held) file.limit a.reply (a.given
    ++ waiting) (Ok tt) (a.fits rows told) e told) in
    subst (λ k. IsNext file k (Ok End) piece) (sym a.there)
    (sym a.as_long ∙ ap length (sym (append-nil a.given)) ∙ ap (λ k. length (a.given ++ k)) (sym none)
    ∙ ap length (sym same))

pub large_answers : (pages : Option (List Page)) (connection : Option Connection) (w : Rows) (file : OpenFile)
    (reader : ReplyReader) (waiting : Bytes) (ended : Option (Result (Unit {0}) ReplyErr)) (rows : List Page)
    → ended ≡ Some (Err BodyTooLong) → pages ≡ Some rows → FileAgrees pages connection w file reader waiting ended
    → (piece : Bytes) → IsNext file (at w file.url) (Ok PastLimit) piece
large_answers pages connection w file reader waiting ended rows is told a piece =
    let e = tail_is_ended pages connection reader file.limit a.reply (a.given
    ++ waiting) ended (Err BodyTooLong) is a.tail in
    subst (λ k. IsNext file k (Ok PastLimit) piece) (sym a.there)
    (large_held a.held file.limit (fits_ended pages rows (Some a.held) file.limit a.reply (a.given
    ++ waiting) (Err BodyTooLong) (a.fits rows told) e told).0)

pub fault_answers : (file : OpenFile) (held : Option Bytes) (e : LinkErr) (piece : Bytes)
    → IsNext file held (Err e) piece
fault_answers file None e piece = tt
fault_answers file (Some bytes) e piece = tt

-- failed URLs aren't told
pub failed_none : {T : Type 0} (url : Bytes) (result : Result T LinkErr) → failed_after None url result ≡ None
failed_none url (Ok x) = refl
failed_none url (Err Failed) = refl
failed_none url (Err OutOfMemory) = refl

-- an open file, of whose reply so much is known
pub known_reading : (r : Reading) → IsKnown r.opening.ended r.opening.reader r.file.limit
    (r.file.given + length r.opening.pending.items) (length r.opening.pending.items)
known_reading r = record { within = r.within; few = r.few; full = r.full; read = r.read }

pub known_given : (ended : Option (Result (Unit {0}) ReplyErr)) (reader : ReplyReader) (limit count waiting : ℕ)
    → IsKnown ended reader limit (count + waiting) waiting → IsKnown ended reader limit (count + waiting + 0) 0
known_given ended reader limit count waiting k =
    let same : count + waiting ≡ count + waiting + 0 = omega arith in
    record {
      within = omega (arith, k.within);
      few = omega arith;
      full = subst (λ n. IsFullEnd ended n limit) same k.full;
      read = subst (λ n. IsReadTo ended reader limit n) same k.read;
    }

-- what a visit found, from the place of a URL
pub visited_at : (told : Option (List Page)) (connection : Option Connection) (limit : ℕ) (url : Bytes)
    (start : Place) (visited : Visited)
    → IsPlaceOf url start → IsVisited told connection limit 65536 start visited
    → IsVisitedAt told connection limit url visited
visited_at told connection limit url start (Opened opening) p v = record { start = start; place = p; visit = v }
visited_at told connection limit url start Missing p v = record { start = start; place = p; visit = v }
visited_at told connection limit url start Fault p v = tt

-- getting a file that is absent
pub get_absent : (rows : List Page) (w : Rows) (address path : Bytes) (limit : ℕ) (start : Place)
    → PagesAgree rows w → IsFilePath path → IsPlaceOf (url_at address path) start
    → Visits rows limit 5 start absent → Absent ≡ got_of (at w (url_at address path)) limit
get_absent rows w address path limit start agree is place v = sym (agree address path limit start absent is place v)

pub open_absent : (rows : List Page) (w : Rows) (address path : Bytes) (limit : ℕ) (start : Place)
    → PagesAgree rows w → IsFilePath path → IsPlaceOf (url_at address path) start
    → Visits rows limit 5 start absent → NotThere ≡ opened_of (at w (url_at address path))
open_absent rows w address path limit start agree is place v =
    sym (ap opened_of (absent_held (at w (url_at address path)) limit
    (agree address path limit start absent is place v)))

-- where a visit found a file, `get` answers what the world holds
pub get_visited : (pages : Option (List Page)) (rows : List Page) (w : Rows) (address path : Bytes) (limit : ℕ)
    (start : Place) (reply bytes : Bytes) (ended : Result (Unit {0}) ReplyErr) (got : Option Got)
    → pages ≡ Some rows → PagesAgree rows w → IsFilePath path → IsPlaceOf (url_at address path) start
    → SaysFile rows limit start reply → IsEnded pages limit reply bytes ended
    → IsGotOf (file_says ended bytes) got
    → IfOk (settled (Ok got)) (λ g. g ≡ got_of (at w (url_at address path)) limit)
get_visited pages rows w address path limit start reply bytes ended got told agree is place says e g =
    get_file (at w (url_at address path)) limit (file_says ended bytes) got
    (fits_ended pages rows (at w (url_at address path)) limit reply bytes ended
    (fits_visit rows w address path limit start reply agree is place says) e told) g

-- the end of an open file: no file is open, nothing is given, and it is the end of what is held
pub end_moved : (ended : Option (Result (Unit {0}) ReplyErr)) (file : OpenFile) (piece : Bytes) → None ≡ file_after_piece (Some file) (settled (Ok (end_of ended))) piece
end_moved None file piece = refl
end_moved (Some (Ok u)) file piece = refl
end_moved (Some (Err BadHead)) file piece = refl
end_moved (Some (Err HeadTooLong)) file piece = refl
end_moved (Some (Err BadLength)) file piece = refl
end_moved (Some (Err BadChunk)) file piece = refl
end_moved (Some (Err Encoded)) file piece = refl
end_moved (Some (Err EndedEarly)) file piece = refl
end_moved (Some (Err BodyTooLong)) file piece = refl
end_moved (Some (Err NoMemory)) file piece = refl

pub end_within : (ended : Option (Result (Unit {0}) ReplyErr)) (file : OpenFile) (piece waiting : Bytes) → piece ≡ [] → waiting ≡ []
    → IsFullEnd ended (file.given + length waiting) file.limit → IsWithinPiece file (settled (Ok (end_of ended))) piece
end_within None file piece waiting none empty full = none
end_within (Some (Ok u)) file piece waiting none empty full = none
end_within (Some (Err BadHead)) file piece waiting none empty full = none
end_within (Some (Err HeadTooLong)) file piece waiting none empty full = none
end_within (Some (Err BadLength)) file piece waiting none empty full = none
end_within (Some (Err BadChunk)) file piece waiting none empty full = none
end_within (Some (Err Encoded)) file piece waiting none empty full = none
end_within (Some (Err EndedEarly)) file piece waiting none empty full = none
end_within (Some (Err BodyTooLong)) file piece waiting none empty full = (none, omega (arith, full refl, ap length empty))
end_within (Some (Err NoMemory)) file piece waiting none empty full = none

pub end_all : (pages : Option (List Page)) (connection : Option Connection) (w : Rows) (file : OpenFile) (reader : ReplyReader) (waiting : Bytes) (ended : Option (Result (Unit {0}) ReplyErr)) (rows : List Page)
    → waiting ≡ [] → pages ≡ Some rows → FileAgrees pages connection w file reader waiting ended → (piece : Bytes) → IsNext file (at w file.url) (settled (Ok (end_of ended))) piece
end_all pages connection w file reader waiting None rows none told a piece = fault_answers file (at w file.url) Failed piece
end_all pages connection w file reader waiting (Some (Ok u)) rows none told a piece = end_answers pages connection w file reader waiting (Some (Ok u)) rows none refl told a piece
end_all pages connection w file reader waiting (Some (Err BadHead)) rows none told a piece = fault_answers file (at w file.url) Failed piece
end_all pages connection w file reader waiting (Some (Err HeadTooLong)) rows none told a piece = fault_answers file (at w file.url) Failed piece
end_all pages connection w file reader waiting (Some (Err BadLength)) rows none told a piece = fault_answers file (at w file.url) Failed piece
end_all pages connection w file reader waiting (Some (Err BadChunk)) rows none told a piece = fault_answers file (at w file.url) Failed piece
end_all pages connection w file reader waiting (Some (Err Encoded)) rows none told a piece = fault_answers file (at w file.url) Failed piece
end_all pages connection w file reader waiting (Some (Err EndedEarly)) rows none told a piece = fault_answers file (at w file.url) Failed piece
end_all pages connection w file reader waiting (Some (Err BodyTooLong)) rows none told a piece = large_answers pages connection w file reader waiting (Some (Err BodyTooLong)) rows refl told a piece
end_all pages connection w file reader waiting (Some (Err NoMemory)) rows none told a piece = fault_answers file (at w file.url) Failed piece

-- an open file and none
pub kept_open : (pages_old pages_now : Option (List Page)) (old_at now_at : Option Connection) (before now : Option Reading) (w : Rows)
    → pages_now ≡ pages_old → (PagesTell pages_old w → ReadingAgrees pages_old now_at w now) → Agrees pages_old old_at before w → Agrees pages_now now_at now w
kept_open pages_old pages_now old_at now_at before now w same open_file a =
    record {
      rows = a.rows;
      told = same ∙ a.told;
      agree = a.agree;
      open_file = subst (λ k. ReadingAgrees k now_at w now) (sym same) (open_file (a.rows, a.told, a.agree));
    }

-- what is got of a reply is what it says
pub got_is_said : (ended : Result (Unit {0}) ReplyErr) (body : Bytes) → IsGotOf (file_says ended body) (got_said ended body)
got_is_said (Ok u) body = refl
got_is_said (Err BadHead) body = tt
got_is_said (Err HeadTooLong) body = tt
got_is_said (Err BadLength) body = tt
got_is_said (Err BadChunk) body = tt
got_is_said (Err Encoded) body = tt
got_is_said (Err EndedEarly) body = tt
got_is_said (Err BodyTooLong) body = refl
got_is_said (Err NoMemory) body = tt

pub got_of_said : (ended : Result (Unit {0}) ReplyErr) (body : Bytes) (got : Option Got) → got ≡ got_said ended body
    → IsGotOf (file_says ended body) got
got_of_said ended body got e = subst (IsGotOf (file_says ended body)) (sym e) (got_is_said ended body)

-- the rest of a reply that more was heard of
pub tail_is_open : (told : Option (List Page)) (connection : Option Connection) (reader : ReplyReader) (limit : ℕ)
    (reply content : Bytes) (ended : Option (Result (Unit {0}) ReplyErr))
    → ended ≡ None → IsTail told connection reader limit reply content ended
    → IsOpen told connection reader limit reply content
tail_is_open told connection reader limit reply content ended e t = subst
    (IsTail told connection reader limit reply content) e t

pub last_ended : (told : Option (List Page)) (now : ReplyReader) (limit : ℕ) (reply into_old into_new : Bytes)
    (before : Outcome) (ended : Result (Unit {0}) ReplyErr)
    → before.content ≡ into_old → HearsLast ended told now limit reply before into_old into_new
    → IsEnded told limit reply into_new ended
last_ended told now limit reply into_old into_new before ended same t =
    let whole : t.whole.content ≡ into_new = t.goes_on ∙ ap (λ k. k ++ t.more) same ∙ sym t.gives in
    record {
      bytes = t.bytes;
      whole = t.whole;
      is_outcome = t.is_outcome;
      of_reply = t.of_reply;
      answer = t.answer;
      same = whole;
      full = λ long. ap length (sym whole) ∙ t.full long;
    }

-- why a link fails

-- a count that rose later rose
pub rose_later : (a b c : ℕ) → a ≤ b → Rose b c → Rose a c
rose_later a b c le rose = grind (arith, le, rose)

-- what pages say of a file whose reply ended at a fault
pub says_fault : (pages : Option (List Page)) (limit : ℕ) (url reply content : Bytes) (start : Place)
    (ended : Result (Unit {0}) ReplyErr)
    → IsPlaceOf url start → ((rows : List Page) → pages ≡ Some rows → SaysFile rows limit start reply)
    → IsEnded pages limit reply content ended → IsFault (file_says ended content) → SaysFault pages limit url
says_fault pages limit url reply content start ended place says e fault = λ rows told. (
  start,
  file_says ended content,
  place,
  subst (λ k. Visits rows limit 5 start (file_says k content)) (sym e.answer)
      (subst (λ k. Visits rows limit 5 start (file_says e.whole.closed k)) e.same
      (says rows told e.whole (e.of_reply rows told))),
  fault,
)

abbrev IsAnswer : {T E : Type 0} → Result T E → Type 0
IsAnswer (Ok x) = Unit {0}
IsAnswer (Err e) = ⊥

pub got_fault : (says : Says) (got : Option Got) → IsGotOf says got → settled (Ok got) ≡ Err Failed → IsFault says
got_fault says None fault e = fault
got_fault says (Some got) is e = absurd (subst IsAnswer e tt)

-- a visit that found a fault
pub fault_found : (pages : Option (List Page)) (connection : Option Connection) (limit : ℕ) (address path : Bytes)
    (start : Place) (visited : Visited)
    → IsPlaceOf (url_at address path) start → IsVisited pages connection limit 65536 start visited
    → IsFaultFound pages limit address path visited
fault_found pages connection limit address path start (Opened opening) place v = tt
fault_found pages connection limit address path start Missing place v = tt
fault_found pages connection limit address path start Fault place v =
    inl (λ rows told. let f = v rows told in (start, f.0, place, f.1, f.2))

-- the end of a file whose reply is at fault
pub end_fault : (pages : Option (List Page)) (connection : Option Connection) (w : Rows) (file : OpenFile)
    (reader : ReplyReader) (waiting : Bytes) (ended : Option (Result (Unit {0}) ReplyErr))
    → waiting ≡ [] → IsReady waiting ended → FileAgrees pages connection w file reader waiting ended
    → settled (Ok (end_of ended)) ≡ Err Failed → SaysFault pages file.limit file.url
end_fault pages connection w file reader waiting None none ready a e = absurd (ready none)
end_fault pages connection w file reader waiting (Some ended) none ready a e =
    says_fault pages file.limit file.url a.reply (a.given
    ++ waiting) a.start ended a.place a.says a.tail (fault_end ended (a.given ++ waiting) e)
  where
    fault_end : (ended : Result (Unit {0}) ReplyErr) (content : Bytes)
        → settled (Ok (end_of (Some ended))) ≡ Err Failed → IsFault (file_says ended content)
    fault_end (Ok u) content e = absurd (subst IsAnswer e tt)
    fault_end (Err BadHead) content e = tt
    fault_end (Err HeadTooLong) content e = tt
    fault_end (Err BadLength) content e = tt
    fault_end (Err BadChunk) content e = tt
    fault_end (Err Encoded) content e = tt
    fault_end (Err EndedEarly) content e = tt
    fault_end (Err BodyTooLong) content e = absurd (subst IsAnswer e tt)
    fault_end (Err NoMemory) content e = tt
