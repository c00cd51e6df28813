use Rattle.std.proofs.Common.{refl, sym, ap, ◌∙◌, subst, arith, [], IfOk}
use Rattle.link_base.specs.Links.{AnswersGet, FitsLimit}
use Rattle.res_base.specs.Paths.{url_at}
use Rattle.http_link.specs.Faults.{IsFaultOf}
use Rattle.http_link.proofs.LinkFacts.{failed_none}
use Rattle.http_link.proofs.OpenFacts.{kept_closed}
use Rattle.http_link.proofs.http_link.HttpLinkLink.get.Goals as goal

pub returns-clause-answer : goal.returns-clause-answer
returns-clause-answer g c = λ w a.
    let told = ap (λ s. g.W.Wire.pages s.wire) c.begin.ensures ∙ a.told in
    subst (AnswersGet w (url_at c.args.address.now c.args.path.now) c.args.limit) (sym c.settle.ensures.result)
    (c.got-got.ensures.answer w c.requires (a.rows, told, a.agree))

pub returns-clause-within : goal.returns-clause-within
returns-clause-within g c = subst (λ r. IfOk r (FitsLimit c.args.limit)) (sym c.settle.ensures.result) c.got-got.ensures.within

pub returns-clause-failed : goal.returns-clause-failed
returns-clause-failed g c = sym (failed_none (url_at c.args.address.now c.args.path.now) c.settle.result)

pub returns-clause-fault : goal.returns-clause-fault
returns-clause-fault g c = λ failed.
    subst (λ x. IsFaultOf (g.W.Wire.faults x) (g.W.Wire.faults c.settle.new.self.wire) (g.W.Wire.pages x)
    c.args.limit c.args.address.now c.args.path.now) (ap (λ s. s.wire) c.begin.ensures)
    (subst (λ x. IsFaultOf (g.W.Wire.faults c.begin.new.self.wire) (g.W.Wire.faults x)
    (g.W.Wire.pages c.begin.new.self.wire) c.args.limit c.args.address.now c.args.path.now) (sym c.settle.ensures.wire)
    (c.got-got.ensures.fault (sym c.settle.ensures.result ∙ failed)))

pub returns-clause-unsent : goal.returns-clause-unsent
returns-clause-unsent g c = λ no. c.settle.ensures.wire ∙ c.got-got.ensures.unsent no ∙ ap (λ s. s.wire) c.begin.ensures

pub returns-clause-kept : goal.returns-clause-kept
returns-clause-kept g c =
    let none = c.settle.ensures.reading ∙ c.got-got.ensures.reading ∙ ap (λ s. s.reading) c.begin.ensures in
    let pages = ap g.W.Wire.pages c.settle.ensures.wire ∙ c.got-got.ensures.pages
    ∙ ap (λ s. g.W.Wire.pages s.wire) c.begin.ensures in
    let faults = c.got-got.ensures.faults ∙ ap (λ s. s.faults) c.begin.ensures in
    let asked = c.settle.ensures.asked ∙ c.got-got.ensures.asked ∙ ap (λ s. s.asked) c.begin.ensures in
    record {
      agreement = λ w a. kept_closed _ _ _ _ _ _ w pages none a;
      faults_later = omega (arith, c.settle.ensures.cause.later, faults);
      asked_later = omega (arith, asked);
      failed_longer = ([], refl);
    }
