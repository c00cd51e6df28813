use Rattle.std.proofs.Common.{◌∙◌, refl, arith}
use Rattle.std.proofs.lemmas.Result.{IfOk-weaker, IfErr-weaker}
use Rattle.pom_grammar.specs.Document.{dashes}
use Rattle.pom_text.proofs.MarkupFacts.{dashes_go}
use Rattle.pom_text.proofs.markup.comment.Goals as goal

pub returns-clause-forth : goal.returns-clause-forth
returns-clause-forth c =
    IfOk-weaker c.mark_end.result _ _ (λ end further. omega (arith, further)) c.mark_end.ensures.forth

pub returns-clause-ok : goal.returns-clause-ok
returns-clause-ok c =
    IfOk-weaker c.mark_end.result _ _
    (λ end on place.
    dashes_go c.args.encoding c.args.bytes.now place c.args.at c.requires.within c.requires.is_dash
    (c.is_at.ensures.within c.if-not-is_at.false) (c.is_at.ensures.is_it c.if-not-is_at.false)
    ∙ on dashes place refl refl) c.mark_end.ensures.ok

pub returns-clause-err : goal.returns-clause-err
returns-clause-err c =
    IfErr-weaker c.mark_end.result _ _
    (λ fault breaks place.
    dashes_go c.args.encoding c.args.bytes.now place c.args.at c.requires.within c.requires.is_dash
    (c.is_at.ensures.within c.if-not-is_at.false) (c.is_at.ensures.is_it c.if-not-is_at.false)
    ∙ breaks dashes place refl refl) c.mark_end.ensures.err
