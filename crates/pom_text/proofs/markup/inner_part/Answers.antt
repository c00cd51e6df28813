use Rattle.std.proofs.Common.{inl, inr, ◌+◌, sym, ◌∙◌, ap, drop, arith}
use Rattle.std.proofs.lemmas.Result.{IfOk-weaker, IfErr-weaker}
use Rattle.pom_grammar.specs.Machine.{opened}
use Rattle.pom_grammar.specs.Verdicts.{verdict}
use Rattle.pom_text.specs.Views.{open_view, frame_view}
use Rattle.pom_text.proofs.MarkupFacts.{run_goes}
use Rattle.pom_text.proofs.markup.inner_part.Goals as goal

pub returns-clause-forth : goal.returns-clause-forth
returns-clause-forth c =
    IfOk-weaker c.markup.result _ _
    (λ next further. omega (arith, c.in-Ok.ensures.runs.forth, further)) c.markup.ensures.forth

pub returns-clause-ok : goal.returns-clause-ok
returns-clause-ok c =
    let e = c.args.encoding in
    IfOk-weaker c.markup.result _ _
    (λ next on.
    run_goes e c.args.bytes.now (frame_view c.args.frame)
    (open_view c.args.stack) c.args.at c.in-Ok.end c.in-Ok.ensures.runs c.in-Ok.ensures.bracket
    c.in-Ok.ensures.is_bracket
    ∙ ap (λ p. verdict e (opened p) (drop (c.in-Ok.end + 1) c.args.bytes.now) (c.in-Ok.end + 1))
    (sym c.in-Ok-add_text.ensures)
    ∙ on) c.markup.ensures.ok

pub returns-clause-err : goal.returns-clause-err
returns-clause-err c =
    let e = c.args.encoding in
    IfErr-weaker c.markup.result _ _
    (λ fault f. elim f [
      | inl a ↦ inl a
      | inr b ↦ inr
          (run_goes e c.args.bytes.now (frame_view c.args.frame)
          (open_view c.args.stack) c.args.at c.in-Ok.end c.in-Ok.ensures.runs c.in-Ok.ensures.bracket
          c.in-Ok.ensures.is_bracket
          ∙ ap (λ p. verdict e (opened p) (drop (c.in-Ok.end + 1) c.args.bytes.now) (c.in-Ok.end + 1))
          (sym c.in-Ok-add_text.ensures)
          ∙ b)
    ]) c.markup.ensures.err
