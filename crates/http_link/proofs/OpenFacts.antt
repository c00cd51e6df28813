-- What is known of a file once it is open, and once a piece of it was given.
use Rattle.std.proofs.Common.{◌≡◌, ◌≢◌, ℕ, ◌+◌, ◌<◌, List, [], ◌∷◌, length, Option, Some, None, Result, Ok, Err, refl, sym, ap, ◌∙◌, subst, arith}
use Rattle.http_wire.specs.declared.reply_reader.ReplyReader.{ReplyReader}
use Rattle.http_wire.specs.declared.replies.ReplyErr.{ReplyErr}
use Rattle.http_wire.specs.Fields.{Bytes}
use Rattle.link_base.specs.FilePaths.{IsFilePath}
use Rattle.link_base.specs.Links.{Rows, FitsPiece, IsNext, AnswersPiece, file_after_open}
use Rattle.link_base.specs.declared.link_errors.LinkErr.{LinkErr}
use Rattle.link_base.specs.declared.link_errors.LinkErr.TheVariants.{Failed}
use Rattle.link_base.specs.declared.links.Next.{Next}
use Rattle.link_base.specs.declared.links.Opened.{Opened as IsThere}
use Rattle.std.specs.Option.{ForSome, option_map}
use Rattle.std.specs.Result.{IsErrAnd, IsErrOf}
use Rattle.res_base.specs.World.{at}
use Rattle.http_visits.specs.declared.places.Place.{Place}
use Rattle.http_visits.specs.Visits.{IsPlaceOf}
use Rattle.link_base.specs.declared.links.OpenFile.{OpenFile}
use Rattle.res_base.specs.Paths.{url_at}
use Rattle.http_visits.specs.declared.pages.Page.{Page}
use Rattle.http_link.specs.declared.pages.Opening.{Opening}
use Rattle.http_link.specs.declared.visits.Visited.{Visited}
use Rattle.http_link.specs.declared.visits.Visited.TheVariants.{Opened, Fault}
use Rattle.http_link.specs.declared.wire.Connection.{Connection}
use Rattle.http_link.specs.Agreement.{FileAgrees, ReadingAgrees, Agrees, PagesTell}
use Rattle.http_link.specs.declared.http_link.Reading.{Reading}
use Rattle.http_link.specs.Answers.{VisitedFrom, IsVisitedAt, ReadsOn, settled}
use Rattle.http_link.specs.Faults.{SaysFault, IsFaultFound}
use Rattle.http_link.specs.Visited.{IsVisited}
use Rattle.http_link.specs.declared.hear.Step.{Step}
use Rattle.http_link.specs.Hearing.{IsToldOf, IsHearing, HearsFew, HasReadSome, ended_of}
use Rattle.http_link.specs.Openings.{IsTail}
use Rattle.http_wire.specs.Outcomes.{Outcome}
use Rattle.http_link.specs.Readings.{HasContent, IsReadTo, IsKnown}
use Rattle.http_link.proofs.KnownFacts.{LimitLaws, known_tail, known_after, some_read}
use Rattle.http_link.proofs.LinkFacts.{open_agrees, fits_visit, given_agrees, known_given, kept_open, refill_agrees, known_reading, visited_at, fault_found}
use Rattle.http_link.proofs.PageFacts.{PageLaws}

-- the file of a visit, just opened
pub open_visited : (pages : Option (List Page)) (connection : Option Connection) (w : Rows) (address path url : Bytes)
    (limit : ℕ) (opening : Opening)
    → PageLaws → url ≡ url_at address path → VisitedFrom pages connection limit (url_at address path) (Opened opening)
    → IsFilePath path → PagesTell pages w
    → FileAgrees pages connection w (record { url = url; limit = limit; given = 0 }) opening.reader
    opening.pending.items opening.ended
open_visited pages connection w address path url limit opening laws same v is tell =
    subst (λ u. FileAgrees pages connection w (record { url = u; limit = limit; given = 0 }) opening.reader
    opening.pending.items opening.ended) (sym same)
    (open_agrees pages connection w (record { url = url_at address path; limit = limit; given = 0 }) opening.reader
    v.visit.reply opening.pending.items opening.ended tell.0 laws refl v.visit.tail v.visit.opens tell.1
    (fits_visit tell.0 w address path limit v.start v.visit.reply tell.2 is v.place (v.visit.says tell.0 tell.1))
    v.start v.place v.visit.says)

pub known_visited : (connection : Option Connection) (limit : ℕ) (url : Bytes) (opening : Opening)
    → LimitLaws → VisitedFrom None connection limit url (Opened opening)
    → IsKnown opening.ended opening.reader limit (0 + length opening.pending.items) (length opening.pending.items)
known_visited connection limit url opening laws v =
    let same : length opening.pending.items ≡ 0 + length opening.pending.items = omega arith in
    subst (λ n. IsKnown opening.ended opening.reader limit n (length opening.pending.items)) same
    (known_tail None connection opening.reader limit v.visit.reply opening.pending.items opening.ended
    (length opening.pending.items) laws v.visit.tail v.visit.few)

-- once a piece was given nothing waits
pub known_piece : (ended : Option (Result (Unit {0}) ReplyErr)) (reader : ReplyReader) (limit given : ℕ)
    (piece rest : Bytes)
    → rest ≡ [] → IsKnown ended reader limit (given + length piece) (length piece)
    → IsKnown ended reader limit (given + length piece + length rest) (length rest)
known_piece ended reader limit given piece rest none k =
    subst (λ q. IsKnown ended reader limit (given + length piece + length q) (length q)) (sym none)
    (known_given ended reader limit given (length piece) k)

pub agrees_piece : (pages : Option (List Page)) (connection : Option Connection) (w : Rows) (file : OpenFile)
    (reader : ReplyReader) (piece rest : Bytes) (ended : Option (Result (Unit {0}) ReplyErr))
    → rest ≡ [] → FileAgrees pages connection w file reader piece ended
    → FileAgrees pages connection w (record { url = file.url; limit = file.limit; given = file.given + length piece })
    reader rest ended
agrees_piece pages connection w file reader piece rest ended none a =
    subst (λ q. FileAgrees pages connection w
    (record { url = file.url; limit = file.limit; given = file.given + length piece }) reader q ended) (sym none)
    (given_agrees pages connection w file reader piece ended a)

-- an open file, or none, where nothing changed but names
pub reading_moves : (one two : Option (List Page)) (at_one at_two : Option Connection) (w : Rows)
    (before now : Option Reading)
    → one ≡ two → at_two ≡ at_one → now ≡ before → ReadingAgrees one at_one w before → ReadingAgrees two at_two w now
reading_moves one two at_one at_two w before now pages connection reading a =
    subst (λ k. ReadingAgrees two at_two w k) (sym reading)
    (subst (λ k. ReadingAgrees two k w before) (sym connection)
    (subst (λ k. ReadingAgrees k at_one w before) pages a))

pub kept_closed : (pages_old pages_now : Option (List Page)) (old_at now_at : Option Connection)
    (before now : Option Reading) (w : Rows)
    → pages_now ≡ pages_old → now ≡ None → Agrees pages_old old_at before w → Agrees pages_now now_at now w
kept_closed pages_old pages_now old_at now_at before now w same none a =
    kept_open pages_old pages_now old_at now_at before now w same
    (λ tell. subst (λ k. ReadingAgrees pages_old now_at w k) (sym none) tt) a

-- a reader that has read some bytes, where more may come
pub read_some : (ended : Option (Result (Unit {0}) ReplyErr)) (reader : ReplyReader) (limit count : ℕ)
    → ended ≡ None → IsReadTo ended reader limit count → ¬ ¬ (HasReadSome reader)
read_some ended reader limit count e r = some_read reader limit count (subst (λ k. IsReadTo k reader limit count) e r)

pub tail_reads : (told : Option (List Page)) (connection : Option Connection) (reader : ReplyReader) (limit : ℕ)
    (reply content : Bytes) (ended : Option (Result (Unit {0}) ReplyErr))
    → IsTail told connection reader limit reply content ended → ReadsOn ended reader
tail_reads told connection reader limit reply content None tail =
    λ no. no (limit, tail.hearing.bytes, tail.outcome, tail.hearing.read)
tail_reads told connection reader limit reply content (Some ended) tail = tt

-- what is known after more was heard
pub known_refill : (step : Step) (pages : Option (List Page)) (old_at connection : Option Connection)
    (old reader : ReplyReader) (limit given most : ℕ) (waiting pending : Bytes) (ended now : Option (Result
    (Unit {0}) ReplyErr))
    → LimitLaws → waiting ≡ [] → ended ≡ None → most ≡ 65536 → now ≡ ended_of step
    → ((told : Option (List Page)) (limit : ℕ) (reply : Bytes) (before : Outcome) → IsToldOf told pages
    → IsHearing told old_at old limit reply before
    → HearsFew step told connection reader limit reply before most [] pending)
    → IsKnown ended old limit (given + length waiting) (length waiting)
    → IsKnown now reader limit (given + length pending) (length pending)
known_refill step pages old_at connection old reader limit given most waiting pending ended now laws none more size same
    steps k =
    let read : IsReadTo None old limit (given + length waiting) = subst (λ q. IsReadTo q old limit (given
    + length waiting)) more k.read in
    let count : given + length waiting ≡ given = omega (arith, ap length none) in
    subst (λ q. IsKnown q reader limit (given + length pending) (length pending)) (sym same)
    (known_after step pages old_at connection old reader limit given most pending laws size steps
    (subst (λ q. ¬ ¬ (HasContent old limit q)) count read))

pub refill_reading : (pages : Option (List Page)) (old_at connection : Option Connection) (w : Rows) (file : OpenFile)
    (old reader : ReplyReader) (step : Step) (most : ℕ) (waiting pending : Bytes) (ended now : Option (Result
    (Unit {0}) ReplyErr))
    → waiting ≡ [] → ended ≡ None → now ≡ ended_of step
    → ((told : Option (List Page)) (limit : ℕ) (reply : Bytes) (before : Outcome) → IsToldOf told pages
    → IsHearing told old_at old limit reply before
    → HearsFew step told connection reader limit reply before most [] pending)
    → FileAgrees pages old_at w file old waiting ended → FileAgrees pages connection w file reader pending now
refill_reading pages old_at connection w file old reader step most waiting pending ended now none more same steps a =
    subst (FileAgrees pages connection w file reader pending) (sym same)
    (refill_agrees pages old_at connection w file old reader step most waiting pending ended none more steps a)

-- a file is no fault
pub not_there : {T : Type 0} (opening : Opening) → Opened opening ≡ Fault → T
not_there opening e = cc

-- the same, where the piece was counted
pub known_count : (ended : Option (Result (Unit {0}) ReplyErr)) (reader : ReplyReader) (limit given count : ℕ)
    (piece rest : Bytes)
    → count ≡ length piece → rest ≡ [] → IsKnown ended reader limit (given + length piece) (length piece)
    → IsKnown ended reader limit (given + count + length rest) (length rest)
known_count ended reader limit given count piece rest e none k =
    subst (λ n. IsKnown ended reader limit (given + n + length rest) (length rest)) (sym e)
    (known_piece ended reader limit given piece rest none k)

pub agrees_count : (pages : Option (List Page)) (connection : Option Connection) (w : Rows) (file : OpenFile)
    (reader : ReplyReader) (count : ℕ) (piece rest : Bytes) (ended : Option (Result (Unit {0}) ReplyErr))
    → count ≡ length piece → rest ≡ [] → FileAgrees pages connection w file reader piece ended
    → FileAgrees pages connection w (record { url = file.url; limit = file.limit; given = file.given + count }) reader
    rest ended
agrees_count pages connection w file reader count piece rest ended e none a =
    subst (λ n. FileAgrees pages connection w (record { url = file.url; limit = file.limit; given = file.given + n })
    reader rest ended) (sym e) (agrees_piece pages connection w file reader piece rest ended none a)

-- a piece fits
pub fits_piece : (reading : Reading) (piece : Bytes) → piece ≡ reading.opening.pending.items
    → reading.opening.pending.items ≢ [] → FitsPiece reading.file piece
fits_piece reading piece e some =
    let k = known_reading reading in
    record {
      some = some_bytes piece (λ none. some (sym e ∙ none));
      few = omega (arith, k.few, ap length e);
      within = omega (arith, k.within, ap length e);
    }
  where
    some_bytes : (bytes : Bytes) → bytes ≢ [] → 0 < length bytes
    some_bytes [] some = absurd (some refl)
    some_bytes (x ∷ bytes) some = omega arith

pub file_of_agrees : (pages : Option (List Page)) (connection : Option Connection) (open_file : Option Reading)
    (reading : Reading) (w : Rows)
    → open_file ≡ Some reading → Agrees pages connection open_file w
    → FileAgrees pages connection w reading.file reading.opening.reader reading.opening.pending.items
    reading.opening.ended
file_of_agrees pages connection open_file reading w is a = subst (ReadingAgrees pages connection w) is a.open_file

-- what is next of an open file answers a call for its next piece
pub next_answers : (w : Rows) (file : OpenFile) (result : Result Next LinkErr) (piece : Bytes)
    → IsNext file (at w file.url) result piece → AnswersPiece w (Some file) result piece
next_answers w file result piece n = λ x e.
    let same : file ≡ x = cc in
    subst (λ f. IsNext f (at w f.url) result piece) same n

-- a visit that received into a buffer of that size
pub visited_here : (told : Option (List Page)) (connection : Option Connection) (limit most : ℕ) (url : Bytes)
    (start : Place) (visited : Visited)
    → most ≡ 65536 → IsPlaceOf url start → IsVisited told connection limit most start visited
    → IsVisitedAt told connection limit url visited
visited_here told connection limit most url start visited size place v =
    visited_at told connection limit url start visited place
    (subst (λ n. IsVisited told connection limit n start visited) size v)

pub fault_at : (pages : Option (List Page)) (connection : Option Connection) (limit most : ℕ) (address path : Bytes)
    (start : Place) (visited : Visited)
    → most ≡ 65536 → IsPlaceOf (url_at address path) start → IsVisited pages connection limit most start visited
    → IsFaultFound pages limit address path visited
fault_at pages connection limit most address path start visited size place v =
    fault_found pages connection limit address path start visited place
    (subst (λ n. IsVisited pages connection limit n start visited) size v)

-- the same where pages and files have other names
pub agrees_pages : (one two : Option (List Page)) (connection : Option Connection) (w : Rows) (file : OpenFile)
    (reader : ReplyReader) (pending : Bytes) (ended : Option (Result (Unit {0}) ReplyErr))
    → two ≡ one → FileAgrees one connection w file reader pending ended
    → FileAgrees two connection w file reader pending ended
agrees_pages one two connection w file reader pending ended same a =
    subst (λ p. FileAgrees p connection w file reader pending ended) (sym same) a

pub says_moves : (one two : Option (List Page)) (file now : OpenFile)
    → two ≡ one → now ≡ file → SaysFault two now.limit now.url → SaysFault one file.limit file.url
says_moves one two file now pages same says =
    subst (λ f. SaysFault one f.limit f.url) same (subst (λ p. SaysFault p now.limit now.url) pages says)

pub none_agrees : (pages : Option (List Page)) (connection : Option Connection) (w : Rows) (now : Option Reading)
    → now ≡ None → ReadingAgrees pages connection w now
none_agrees pages connection w now none = subst (λ r. ReadingAgrees pages connection w r) (sym none) tt

pub opened_moves : (before now : Option Reading) (url : Bytes) (limit : ℕ) (one two : Result IsThere LinkErr)
    → now ≡ before → two ≡ one → option_map (λ r. r.file) before ≡ file_after_open url limit one
    → option_map (λ r. r.file) now ≡ file_after_open url limit two
opened_moves before now url limit one two reading result opened =
    ap (option_map (λ r. r.file)) reading ∙ opened ∙ ap (file_after_open url limit) (sym result)

-- an error that was handed on
pub failed_on : {A B : Type 0} (result : Result (Option A) LinkErr) (error : LinkErr)
    → IsErrAnd result (λ e. e ≡ error) → settled result ≡ Err Failed → IsErrOf {T = B} (Err error) Failed
failed_on (Ok x) error is failed = absurd is
failed_on (Err e) error is failed =
    let same : e ≡ Failed = cc in
    ap Err (sym is ∙ same)

-- a reader of which more may come
pub reads_on : (ended : Option (Result (Unit {0}) ReplyErr)) (reader : ReplyReader)
    → ended ≡ None → ReadsOn ended reader → ¬ ¬ (HasReadSome reader)
reads_on ended reader none reads = subst (λ k. ReadsOn k reader) none reads

-- what is so of the one value is so of whatever value there is
pub for_this : {T : Type 0} (P : T → Type 0) (x : T) → P x → ForSome (Some x) P
for_this P x p = λ y e.
    let same : x ≡ y = cc in
    subst P same p
