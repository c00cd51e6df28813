use Rattle.std.proofs.Common.{inl, inr, refl, ap, ◌∙◌, subst, Some, Ok}
use Rattle.link_base.specs.Links.{AnswersPiece, IsWithinPiece, file_after_piece}
use Rattle.http_link.specs.Answers.{settled}
use Rattle.http_link.proofs.OpenFacts.{reading_moves, agrees_pages, says_moves, failed_on, none_agrees}
use Rattle.http_link.proofs.http_link.HttpLink.next_of.Goals as goal

pub returns-clause-moved : goal.returns-clause-moved
returns-clause-moved g c =
    c.give.ensures.moved
    ∙ ap (λ f. file_after_piece (Some f) (settled (Ok c.give.result)) c.give.new.into.items) c.in_ok-reading.ensures.file

pub returns-clause-within : goal.returns-clause-within
returns-clause-within g c =
    subst (λ f. IsWithinPiece f (settled (Ok c.give.result)) c.give.new.into.items) c.in_ok-reading.ensures.file
    c.give.ensures.within

pub returns-clause-answer : goal.returns-clause-answer
returns-clause-answer g c = λ w tell a.
    let now = agrees_pages _ _ _ w _ _ _ _ c.in_ok-reading.ensures.pages (c.in_ok-reading.ensures.agrees w a) in
    subst (λ f. AnswersPiece w (Some f) (settled (Ok c.give.result)) c.give.new.into.items) c.in_ok-reading.ensures.file
    (c.give.ensures.answer w (tell.0, c.in_ok-reading.ensures.pages ∙ tell.1, tell.2) now)

pub returns-clause-fault : goal.returns-clause-fault
returns-clause-fault g c = λ w a failed.
    let now = agrees_pages _ _ _ w _ _ _ _ c.in_ok-reading.ensures.pages (c.in_ok-reading.ensures.agrees w a) in
    inr (says_moves _ _ _ _ c.in_ok-reading.ensures.pages c.in_ok-reading.ensures.file
    (c.give.ensures.fault w now failed))

pub returns-in_err-reading-clause-fault : goal.returns-in_err-reading-clause-fault
returns-in_err-reading-clause-fault g c = λ w a failed. inl (c.in_err-reading.ensures.cause
    (failed_on c.from_residual.result _ c.from_residual.ensures.1 failed))

pub returns-clause-agrees : goal.returns-clause-agrees
returns-clause-agrees g c = λ w a.
    let now = agrees_pages _ _ _ w _ _ _ _ c.in_ok-reading.ensures.pages (c.in_ok-reading.ensures.agrees w a) in
    reading_moves _ _ _ _ w _ _ c.in_ok-reading.ensures.pages (ap g.W.Wire.connection c.give.ensures.wire) refl
    (c.give.ensures.agrees w now)

pub returns-in_err-reading-clause-agrees : goal.returns-in_err-reading-clause-agrees
returns-in_err-reading-clause-agrees g c = λ w a.
    none_agrees _ _ w _ (c.in_err-reading.ensures.reading ∙ c.requires.closed)
