use Rattle.std.proofs.Common.{◌⊎◌, refl, sym, ap, ◌∙◌, subst, arith, [], Some}
use Rattle.std.specs.Option.{ForSome, option_map}
use Rattle.link_base.specs.Links.{AnswersPiece, IsWithinPiece, file_after_piece, url_of_file}
use Rattle.res_base.specs.Causes.{Rose}
use Rattle.http_link.specs.Faults.{SaysFault}
use Rattle.http_link.proofs.LinkFacts.{failed_none, kept_open}
use Rattle.http_link.proofs.OpenFacts.{reading_moves, file_of_agrees, for_this}
use Rattle.http_link.proofs.http_link.HttpLinkLink.next_piece.Goals as goal

pub returns-clause-failed : goal.returns-clause-failed
returns-clause-failed g c = sym (failed_none (url_of_file (option_map (λ q. q.file) c.args.self.now.reading)) c.settle.result)

pub returns-clause-answer : goal.returns-clause-answer
returns-clause-answer g c = λ w a.
    let is = sym c.take.ensures.value ∙ c.in-Some.is in
    subst (λ r. AnswersPiece w (option_map (λ q. q.file) r) c.settle.result c.next_of-next.new.into.items) (sym is)
    (subst (λ r. AnswersPiece w (Some c.in-Some.reading.file) r c.next_of-next.new.into.items) (sym c.settle.ensures.result)
    (c.next_of-next.ensures.answer w (a.rows, a.told, a.agree) (file_of_agrees _ _ _ c.in-Some.reading w is a)))

pub returns-clause-within : goal.returns-clause-within
returns-clause-within g c =
    let is = sym c.take.ensures.value ∙ c.in-Some.is in
    subst (λ r. ForSome (option_map (λ q. q.file) r) (λ f. IsWithinPiece f c.settle.result c.next_of-next.new.into.items))
    (sym is)
    (for_this (λ f. IsWithinPiece f c.settle.result c.next_of-next.new.into.items) c.in-Some.reading.file
    (subst (λ r. IsWithinPiece c.in-Some.reading.file r c.next_of-next.new.into.items) (sym c.settle.ensures.result)
    c.next_of-next.ensures.within))

pub returns-clause-moved : goal.returns-clause-moved
returns-clause-moved g c =
    let is = sym c.take.ensures.value ∙ c.in-Some.is in
    ap (option_map (λ q. q.file)) c.settle.ensures.reading ∙ c.next_of-next.ensures.moved
    ∙ ap (λ r. file_after_piece (Some c.in-Some.reading.file) r c.next_of-next.new.into.items) (sym c.settle.ensures.result)
    ∙ ap (λ r. file_after_piece (option_map (λ q. q.file) r) c.settle.result c.next_of-next.new.into.items) (sym is)

pub returns-clause-fault : goal.returns-clause-fault
returns-clause-fault g c = λ w a failed.
    let is = sym c.take.ensures.value ∙ c.in-Some.is in
    subst (λ r. ForSome r (λ q. Rose (g.W.Wire.faults c.args.self.now.wire) (g.W.Wire.faults c.settle.new.self.wire)
    ⊎ SaysFault (g.W.Wire.pages c.args.self.now.wire) q.file.limit q.file.url)) (sym is)
    (for_this (λ q. Rose (g.W.Wire.faults c.args.self.now.wire) (g.W.Wire.faults c.settle.new.self.wire)
    ⊎ SaysFault (g.W.Wire.pages c.args.self.now.wire) q.file.limit q.file.url) c.in-Some.reading
    (subst (λ x. Rose (g.W.Wire.faults c.args.self.now.wire) (g.W.Wire.faults x)
    ⊎ SaysFault (g.W.Wire.pages c.args.self.now.wire) c.in-Some.reading.file.limit c.in-Some.reading.file.url)
    (sym c.settle.ensures.wire)
    (c.next_of-next.ensures.fault w (file_of_agrees _ _ _ c.in-Some.reading w is a) (sym c.settle.ensures.result ∙ failed))))

pub returns-clause-kept : goal.returns-clause-kept
returns-clause-kept g c =
    let is = sym c.take.ensures.value ∙ c.in-Some.is in
    let pages = ap g.W.Wire.pages c.settle.ensures.wire ∙ c.next_of-next.ensures.pages in
    record {
      agreement = λ w a. kept_open _ _ _ _ _ _ w pages (λ tell. reading_moves _ _ _ _ w _ _ refl
          (ap g.W.Wire.connection c.settle.ensures.wire) c.settle.ensures.reading
          (c.next_of-next.ensures.agrees w (file_of_agrees _ _ _ c.in-Some.reading w is a))) a;
      faults_later = omega (arith, c.settle.ensures.cause.later, c.next_of-next.ensures.faults);
      asked_later = omega (arith, c.settle.ensures.asked, c.next_of-next.ensures.asked);
      failed_longer = ([], refl);
    }
