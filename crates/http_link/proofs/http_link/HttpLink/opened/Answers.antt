use Rattle.std.proofs.Common.{inl, inr, None}
use Rattle.http_link.proofs.HearFacts.{untold}
use Rattle.http_link.proofs.KnownFacts.{LimitLaws}
use Rattle.http_link.proofs.OpenFacts.{open_visited, known_visited, failed_on}
use Rattle.http_link.proofs.PageFacts.{PageLaws}
use Rattle.http_link.proofs.LinkFacts.{open_absent, open_there, agrees_reading, fits_visit}
use Rattle.http_link.proofs.http_link.HttpLink.opened.Goals as goal

pub returns-in-Absent-clause-answer : goal.returns-in-Absent-clause-answer
returns-in-Absent-clause-answer g c = λ w is tell.
    let v = rw c.in-Absent.is at (c.in_ok-visit_url.ensures.visited _ (λ rows e. e)) in
    open_absent tell.0 w c.args.address.now c.args.path.now c.args.limit v.start tell.2 is v.place (v.visit tell.0 tell.1)

pub returns-in-Opened-clause-answer : goal.returns-in-Opened-clause-answer
returns-in-Opened-clause-answer g c = λ w is tell.
    let laws : PageLaws = record { starts = c.content_grows.ensures.starts; grows = c.content_grows.ensures.grows; one = c.one_outcome.ensures; reads = c.read_is_outcome.ensures; shows = c.shown_is_seen.ensures } in
    let v = rw c.in-Opened.is at (c.in_ok-visit_url.ensures.visited _ (λ rows e. e)) in
    open_there _ _ _ c.args.limit v.visit.reply _ _ tell.0 _ laws v.visit.tail v.visit.opens tell.1
    (fits_visit tell.0 w c.args.address.now c.args.path.now c.args.limit v.start v.visit.reply tell.2 is v.place (v.visit.says tell.0 tell.1))

pub returns-in-Opened-clause-agrees : goal.returns-in-Opened-clause-agrees
returns-in-Opened-clause-agrees g c = λ w is tell.
    let laws : PageLaws = record { starts = c.content_grows.ensures.starts; grows = c.content_grows.ensures.grows; one = c.one_outcome.ensures; reads = c.read_is_outcome.ensures; shows = c.shown_is_seen.ensures } in
    let v = rw c.in-Opened.is at (c.in_ok-visit_url.ensures.visited _ (λ rows e. e)) in
    agrees_reading _ _ w c.reading_of.result _ _ c.reading_of.ensures.file c.reading_of.ensures.opening
    (open_visited _ _ w c.args.address.now c.args.path.now c.in_ok-url.url c.args.limit c.in-Opened.opening laws c.in_ok-url.ensures v is tell)

pub returns-in-Fault-clause-fault : goal.returns-in-Fault-clause-fault
returns-in-Fault-clause-fault g c = λ failed. inr (rw c.in-Fault.is at c.in_ok-visit_url.ensures.fault)

pub returns-in_err-visit_url-clause-fault : goal.returns-in_err-visit_url-clause-fault
returns-in_err-visit_url-clause-fault g c = λ failed. inl (c.in_err-visit_url.ensures.cause
    (failed_on c.from_residual-in_err-visit_url.result _ c.from_residual-in_err-visit_url.ensures.1 failed))

pub reading_of-requires : goal.reading_of-requires
reading_of-requires g c =
    let laws : LimitLaws = record { reads = c.read_is_outcome.ensures; within = c.within_limit.ensures.within } in
    let v = rw c.in-Opened.is at (c.in_ok-visit_url.ensures.visited None (untold _)) in
    known_visited _ c.args.limit _ c.in-Opened.opening laws v
