use Rattle.std.proofs.Common.{inl, inr, ◌∙◌, None}
use Rattle.http_visits.specs.Pages.{file_says}
use Rattle.http_link.proofs.HearFacts.{untold}
use Rattle.http_link.proofs.LinkFacts.{get_absent, get_visited, got_limit, ended_within, got_of_said, says_fault, got_fault, rose_later}
use Rattle.http_link.proofs.OpenFacts.{tail_reads, not_there, failed_on}
use Rattle.http_link.proofs.http_link.HttpLink.got.Goals as goal

pub returns-in-Absent-clause-answer : goal.returns-in-Absent-clause-answer
returns-in-Absent-clause-answer g c = λ w is tell.
    let v = rw c.in-Absent.is at (c.in_ok-visit_url.ensures.visited _ (λ rows e. e)) in
    get_absent tell.0 w c.args.address.now c.args.path.now c.args.limit v.start tell.2 is v.place (v.visit tell.0 tell.1)

pub hear_all-requires-clause-read : goal.hear_all-requires-clause-read
hear_all-requires-clause-read g c =
    let v = rw c.in-Opened.is at (c.in_ok-visit_url.ensures.visited None (untold _)) in
    tail_reads None _ _ c.args.limit v.visit.reply _ _ v.visit.tail

pub returns-in_ok-heard-in-Opened-clause-answer : goal.returns-in_ok-heard-in-Opened-clause-answer
returns-in_ok-heard-in-Opened-clause-answer g c = λ w is tell.
    let v = rw c.in-Opened.is at (c.in_ok-visit_url.ensures.visited _ (λ rows e. e)) in
    let e = c.in_ok-heard-in-Opened.ensures.rest _ c.args.limit v.visit.reply
    (λ rows e. c.in_ok-visit_url.ensures.pages ∙ e) v.visit.tail in
    get_visited _ tell.0 w c.args.address.now c.args.path.now c.args.limit v.start v.visit.reply _ _ c.got_of.result
    tell.1 tell.2 is v.place (v.visit.says tell.0 tell.1) e (got_of_said _ _ c.got_of.result c.got_of.ensures)

pub returns-in_ok-heard-in-Opened-clause-within : goal.returns-in_ok-heard-in-Opened-clause-within
returns-in_ok-heard-in-Opened-clause-within g c =
    let v = rw c.in-Opened.is at (c.in_ok-visit_url.ensures.visited None (untold _)) in
    let e = c.in_ok-heard-in-Opened.ensures.rest None c.args.limit v.visit.reply (untold _) v.visit.tail in
    got_limit c.got_of.result _ _ c.args.limit (got_of_said _ _ c.got_of.result c.got_of.ensures)
    (ended_within c.args.limit v.visit.reply _ None _ c.within_limit.ensures.within e)

pub returns-in_ok-heard-in-Opened-clause-fault : goal.returns-in_ok-heard-in-Opened-clause-fault
returns-in_ok-heard-in-Opened-clause-fault g c = λ failed.
    let v = rw c.in-Opened.is at (c.in_ok-visit_url.ensures.visited _ (λ rows e. e)) in
    let e = c.in_ok-heard-in-Opened.ensures.rest _ c.args.limit v.visit.reply
    (λ rows e. c.in_ok-visit_url.ensures.pages ∙ e) v.visit.tail in
    inr (inl (says_fault _ c.args.limit _ v.visit.reply _ v.start _ v.place v.visit.says e
    (got_fault (file_says c.in_ok-heard-in-Opened.heard.ended c.in_ok-heard-in-Opened.heard.bytes.items) c.got_of.result
    (got_of_said _ _ c.got_of.result c.got_of.ensures) failed)))

pub returns-in-Fault-clause-fault : goal.returns-in-Fault-clause-fault
returns-in-Fault-clause-fault g c = λ failed. inr (rw c.in-Fault.is at c.in_ok-visit_url.ensures.fault)

pub returns-in_err-visit_url-clause-fault : goal.returns-in_err-visit_url-clause-fault
returns-in_err-visit_url-clause-fault g c = λ failed. inl (c.in_err-visit_url.ensures.cause
    (failed_on c.from_residual.result _ c.from_residual.ensures.1 failed))

pub returns-in_err-heard-in-Opened-clause-fault : goal.returns-in_err-heard-in-Opened-clause-fault
returns-in_err-heard-in-Opened-clause-fault g c = λ failed.
    inl (rose_later _ _ _ c.in_ok-visit_url.ensures.later (c.in_err-heard-in-Opened.ensures.cause
    (failed_on c.from_residual-in_err-heard-in-Opened.result _ c.from_residual-in_err-heard-in-Opened.ensures.1 failed)))

pub returns-in_ok-heard-in-Opened-clause-unsent : goal.returns-in_ok-heard-in-Opened-clause-unsent
returns-in_ok-heard-in-Opened-clause-unsent g c = λ no.
    not_there c.in-Opened.opening (rw c.in-Opened.is at (c.in_ok-visit_url.ensures.elsewhere no))

pub returns-in_err-heard-in-Opened-clause-unsent : goal.returns-in_err-heard-in-Opened-clause-unsent
returns-in_err-heard-in-Opened-clause-unsent g c = λ no.
    not_there c.in-Opened.opening (rw c.in-Opened.is at (c.in_ok-visit_url.ensures.elsewhere no))
