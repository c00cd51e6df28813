use Rattle.std.proofs.Common.{inl, inr, sym, ◌∙◌, subst, arith}
use Rattle.std.proofs.lemmas.Result.{IfOk-weaker, IfErr-weaker}
use Rattle.pom_grammar.specs.Machine.{opened}
use Rattle.pom_text.specs.Scans.{Faults}
use Rattle.pom_text.specs.Views.{open_view}
use Rattle.pom_text.proofs.MarkupFacts.{bang_goes, bang_breaks, doctype_faults}
use Rattle.pom_text.proofs.markup.declared.Goals as goal

pub returns-then-is_doctype-clause-err : goal.returns-then-is_doctype-clause-err
returns-then-is_doctype-clause-err c =
    inr (doctype_faults c.args.encoding c.args.bytes.now
    (open_view c.args.stack) c.args.at c.requires.within c.requires.after c.requires.is_bang
    (sym c.is_doctype.ensures ∙ c.if-is_doctype.true))

pub returns-then-is_at-clause-forth : goal.returns-then-is_at-clause-forth
returns-then-is_at-clause-forth c =
    IfOk-weaker c.cdata.result _ _ (λ next further. omega (arith, further)) c.cdata.ensures.forth

pub returns-then-is_at-clause-ok : goal.returns-then-is_at-clause-ok
returns-then-is_at-clause-ok c =
    IfOk-weaker c.cdata.result _ _
    (λ next on.
    bang_goes c.args.encoding c.args.bytes.now (open_view c.args.stack) c.args.at c.requires.within c.requires.is_bang
    ∙ on) c.cdata.ensures.ok

pub returns-then-is_at-clause-err : goal.returns-then-is_at-clause-err
returns-then-is_at-clause-err c =
    IfErr-weaker c.cdata.result _ _
    (λ fault f. elim f [
      | inl a ↦ inl a
      | inr b ↦ inr
          (bang_goes c.args.encoding c.args.bytes.now
          (open_view c.args.stack) c.args.at c.requires.within c.requires.is_bang
          ∙ b)
    ]) c.cdata.ensures.err

pub returns-then-not-is_at-clause-err : goal.returns-then-not-is_at-clause-err
returns-then-not-is_at-clause-err c =
    inr (subst (Faults c.args.encoding c.args.bytes.now (opened (open_view c.args.stack)) c.args.at)
    (sym c.bad_text.ensures)
    (bang_goes c.args.encoding c.args.bytes.now (open_view c.args.stack) c.args.at c.requires.within c.requires.is_bang
    ∙ bang_breaks c.args.encoding c.args.bytes.now (open_view c.args.stack) _
    (sym c.is_doctype.ensures ∙ c.if-is_doctype.false) (c.is_at-2.ensures.other c.if-not-is_at.true)
    (c.is_at.ensures.other c.if-is_at.false)))

pub returns-in-Ok-clause-ok : goal.returns-in-Ok-clause-ok
returns-in-Ok-clause-ok c =
    bang_goes c.args.encoding c.args.bytes.now (open_view c.args.stack) c.args.at c.requires.within c.requires.is_bang
    ∙ c.in-Ok.ensures.ok (open_view c.args.stack)

pub returns-in-Err-clause-err : goal.returns-in-Err-clause-err
returns-in-Err-clause-err c =
    inr (bang_goes c.args.encoding c.args.bytes.now
    (open_view c.args.stack) c.args.at c.requires.within c.requires.is_bang
    ∙ c.in-Err.ensures.err (open_view c.args.stack))
