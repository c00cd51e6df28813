use Rattle.std.proofs.Common.{refl, sym, ap, ◌∙◌, subst, arith, []}
use Rattle.link_base.specs.Links.{AnswersOpen}
use Rattle.res_base.specs.Paths.{url_at}
use Rattle.http_link.specs.Faults.{IsFaultOf}
use Rattle.http_link.proofs.LinkFacts.{failed_none, kept_open}
use Rattle.http_link.proofs.OpenFacts.{reading_moves, opened_moves}
use Rattle.http_link.proofs.http_link.HttpLinkLink.«open».Goals as goal

pub returns-clause-answer : goal.returns-clause-answer
returns-clause-answer g c = λ w a.
    let told = ap (λ s. g.W.Wire.pages s.wire) c.begin.ensures ∙ a.told in
    subst (AnswersOpen w (url_at c.args.address.now c.args.path.now)) (sym c.settle.ensures.result)
    (c.opened-opened.ensures.answer w c.requires (a.rows, told, a.agree))

pub returns-clause-opened : goal.returns-clause-opened
returns-clause-opened g c =
    opened_moves _ _ (url_at c.args.address.now c.args.path.now) c.args.limit _ _ c.settle.ensures.reading c.settle.ensures.result
    c.opened-opened.ensures.opened

pub returns-clause-failed : goal.returns-clause-failed
returns-clause-failed g c = sym (failed_none (url_at c.args.address.now c.args.path.now) c.settle.result)

pub returns-clause-fault : goal.returns-clause-fault
returns-clause-fault g c = λ failed.
    subst (λ x. IsFaultOf (g.W.Wire.faults x) (g.W.Wire.faults c.settle.new.self.wire) (g.W.Wire.pages x)
    c.args.limit c.args.address.now c.args.path.now) (ap (λ s. s.wire) c.begin.ensures)
    (subst (λ x. IsFaultOf (g.W.Wire.faults c.begin.new.self.wire) (g.W.Wire.faults x)
    (g.W.Wire.pages c.begin.new.self.wire) c.args.limit c.args.address.now c.args.path.now) (sym c.settle.ensures.wire)
    (c.opened-opened.ensures.fault (sym c.settle.ensures.result ∙ failed)))

pub returns-clause-unsent : goal.returns-clause-unsent
returns-clause-unsent g c = λ no. c.settle.ensures.wire ∙ c.opened-opened.ensures.unsent no ∙ ap (λ s. s.wire) c.begin.ensures

pub returns-clause-kept : goal.returns-clause-kept
returns-clause-kept g c =
    let begun = ap (λ s. g.W.Wire.pages s.wire) c.begin.ensures in
    let pages = ap g.W.Wire.pages c.settle.ensures.wire ∙ c.opened-opened.ensures.pages ∙ begun in
    let faults = c.opened-opened.ensures.faults ∙ ap (λ s. s.faults) c.begin.ensures in
    let asked = c.settle.ensures.asked ∙ c.opened-opened.ensures.asked ∙ ap (λ s. s.asked) c.begin.ensures in
    record {
      agreement = λ w a. kept_open _ _ _ _ _ _ w pages (λ tell. reading_moves _ _ _ _ w _ _ begun
          (ap g.W.Wire.connection c.settle.ensures.wire) c.settle.ensures.reading
          (c.opened-opened.ensures.agrees w c.requires (tell.0, begun ∙ tell.1, tell.2))) a;
      faults_later = omega (arith, c.settle.ensures.cause.later, faults);
      asked_later = omega (arith, asked);
      failed_longer = ([], refl);
    }
