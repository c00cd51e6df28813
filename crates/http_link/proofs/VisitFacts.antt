-- What pages say, redirects followed.
use Rattle.std.proofs.Common.{◌≡◌, ℕ, zero, suc, List, [], Option, Some, None, Result, Ok, Err, refl, ap, subst, arith, ◌-◌, ◌<◌}
use Rattle.http_wire.specs.declared.replies.ReplyErr.{ReplyErr}
use Rattle.http_wire.specs.declared.replies.ReplyErr.TheVariants.{BadHead, HeadTooLong, BadLength, BadChunk, Encoded, EndedEarly, BodyTooLong, NoMemory}
use Rattle.http_wire.specs.Fields.{Bytes}
use Rattle.http_wire.specs.Requests.{request_of}
use Rattle.http_visits.specs.declared.pages.Page.{Page}
use Rattle.http_visits.specs.declared.places.Place.{Place}
use Rattle.http_link.specs.Hearing.{reply_told}
use Rattle.http_link.specs.Openings.{IsFilePage}
use Rattle.http_visits.specs.Pages.{Says, file, absent, moved, large, faulty, IsPage, IsFault, file_says}
use Rattle.http_visits.specs.Places.{IsNextPlace}
use Rattle.http_visits.specs.Visits.{Stays, Follows, Visits, reply_at}
use Rattle.http_link.specs.Visited.{SaysFile}

-- a page that leads nowhere else
abbrev pub IsHere : Says → Type 0
IsHere (file body) = Unit {0}
IsHere absent = Unit {0}
IsHere (moved location) = ⊥
IsHere (large body) = Unit {0}
IsHere (faulty body) = Unit {0}

stays_here : (page : Says) → IsHere page → Stays page page
stays_here (file body) h = refl
stays_here absent h = refl
stays_here (moved location) h = absurd h
stays_here (large body) h = refl
stays_here (faulty body) h = refl

follows_here : (visits : Place → Says → Type 0) (place : Place) (page : Says) → IsHere page
    → Follows visits place page page
follows_here visits place (file body) h = refl
follows_here visits place absent h = refl
follows_here visits place (moved location) h = absurd h
follows_here visits place (large body) h = refl
follows_here visits place (faulty body) h = refl

pub visits_here : (rows : List Page) (limit left : ℕ) (place : Place) (page : Says)
    → IsPage limit (reply_at rows place) page → IsHere page → Visits rows limit left place page
visits_here rows limit zero place page p h = (page, p, stays_here page h)
visits_here rows limit (suc left) place page p h = (page, p, follows_here (Visits rows limit left) place page h)

pub visits_last : (rows : List Page) (limit : ℕ) (place : Place) (location : Bytes)
    → IsPage limit (reply_at rows place) (moved location) → Visits rows limit 0 place (faulty [])
visits_last rows limit place location p = (moved location, p, refl)

pub visits_nowhere : (rows : List Page) (limit left : ℕ) (place : Place) (location : Bytes)
    → IsPage limit (reply_at rows place) (moved location) → IsNextPlace place location None
    → Visits rows limit left place (faulty [])
visits_nowhere rows limit zero place location p n = (moved location, p, refl)
visits_nowhere rows limit (suc left) place location p n = (moved location, p, (None, n, refl))

pub visits_next : (rows : List Page) (limit left : ℕ) (place next : Place) (location : Bytes) (says : Says)
    → 0 < left → IsPage limit (reply_at rows place) (moved location) → IsNextPlace place location (Some next)
    → Visits rows limit (left - 1) next says → Visits rows limit left place says
visits_next rows limit zero place next location says l p n v = absurd (omega (arith, l))
visits_next rows limit (suc left) place next location says l p n v =
    let e : suc left - 1 ≡ left = omega arith in
    (moved location, p, (Some next, n, subst (λ k. Visits rows limit k next says) e v))

refused_here : (e : ReplyErr) (body : Bytes) → IsHere (file_says (Err e) body)
refused_here BadHead body = tt
refused_here HeadTooLong body = tt
refused_here BadLength body = tt
refused_here BadChunk body = tt
refused_here Encoded body = tt
refused_here EndedEarly body = tt
refused_here BodyTooLong body = tt
refused_here NoMemory body = tt

pub file_here : (ended : Result (Unit {0}) ReplyErr) (body : Bytes) → IsHere (file_says ended body)
file_here (Ok u) body = tt
file_here (Err e) body = refused_here e body

pub fault_here : (says : Says) → IsFault says → IsHere says
fault_here (file body) s = absurd s
fault_here absent s = absurd s
fault_here (moved location) s = absurd s
fault_here (large body) s = absurd s
fault_here (faulty body) s = tt

-- the told reply is the one of the rows
pub told_reply : (pages : Option (List Page)) (rows : List Page) (place : Place) → pages ≡ Some rows
    → reply_told pages place.authority (request_of place.authority place.target) ≡ reply_at rows place
told_reply pages rows place e = ap (λ k. reply_told k place.authority (request_of place.authority place.target)) e

-- a file's page is what the visit says
pub says_file : (rows : List Page) (limit left : ℕ) (start place : Place) (reply : Bytes)
    → reply ≡ reply_at rows place → IsFilePage limit reply
    → ((says : Says) → Visits rows limit left place says → Visits rows limit 5 start says)
    → SaysFile rows limit start reply
says_file rows limit left start place reply e page visits = λ whole o.
    visits (file_says whole.closed whole.content)
    (visits_here rows limit left place (file_says whole.closed whole.content) (subst (λ r. IsPage limit r
    (file_says whole.closed whole.content)) e (whole, o, page whole o)) (file_here whole.closed whole.content))
