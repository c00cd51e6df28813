use Rattle.std.proofs.Common.{inl, inr, ◌+◌, sym, ◌∙◌, ap, subst, drop, arith}
use Rattle.std.proofs.lemmas.Result.{IfOk-weaker, IfErr-weaker}
use Rattle.pom_grammar.specs.Machine.{outside, opened, back}
use Rattle.pom_grammar.specs.Verdicts.{verdict}
use Rattle.pom_text.specs.Scans.{Faults}
use Rattle.pom_text.specs.Views.{open_view, nest}
use Rattle.pom_text.proofs.MarkupFacts.{top_stays, top_goes, top_breaks}
use Rattle.pom_text.proofs.markup.top_part.Goals as goal

pub returns-then-is_at-clause-forth : goal.returns-then-is_at-clause-forth
returns-then-is_at-clause-forth c =
    IfOk-weaker c.markup.result _ _ (λ next further. omega (arith, c.space_end-end.ensures.forth, further))
    c.markup.ensures.forth

pub returns-then-is_at-clause-ok : goal.returns-then-is_at-clause-ok
returns-then-is_at-clause-ok c =
    let e = c.args.encoding in
    let bytes = c.args.bytes.now in
    let root = c.args.stack.root in
    IfOk-weaker c.markup.result _ _
    (λ next on.
    ap (λ fs. verdict e (back (nest (outside root) fs)) (drop c.args.at bytes) c.args.at) c.requires.at_top
    ∙ top_goes e bytes root c.args.at c.space_end-end.result c.space_end-end.ensures.forth
    (c.is_at.ensures.within c.if-is_at.true) c.space_end-end.ensures.spaces (c.is_at.ensures.is_it c.if-is_at.true)
    ∙ ap (λ fs. verdict e (opened (nest (outside root) fs)) (drop (c.space_end-end.result + 1) bytes)
    (c.space_end-end.result + 1)) (sym c.requires.at_top)
    ∙ on) c.markup.ensures.ok

pub returns-then-is_at-clause-err : goal.returns-then-is_at-clause-err
returns-then-is_at-clause-err c =
    let e = c.args.encoding in
    let bytes = c.args.bytes.now in
    let root = c.args.stack.root in
    IfErr-weaker c.markup.result _ _
    (λ fault f. elim f [
      | inl a ↦ inl a
      | inr b ↦ inr
          (ap (λ fs. verdict e (back (nest (outside root) fs)) (drop c.args.at bytes) c.args.at) c.requires.at_top
          ∙ top_goes e bytes root c.args.at c.space_end-end.result c.space_end-end.ensures.forth
          (c.is_at.ensures.within c.if-is_at.true) c.space_end-end.ensures.spaces
          (c.is_at.ensures.is_it c.if-is_at.true)
          ∙ ap (λ fs. verdict e (opened (nest (outside root) fs)) (drop (c.space_end-end.result + 1) bytes)
          (c.space_end-end.result + 1)) (sym c.requires.at_top)
          ∙ b)
    ]) c.markup.ensures.err

pub returns-then-end-bytes-clause-err : goal.returns-then-end-bytes-clause-err
returns-then-end-bytes-clause-err c =
    let e = c.args.encoding in
    let bytes = c.args.bytes.now in
    let root = c.args.stack.root in
    inr (subst (Faults e bytes (back (open_view c.args.stack)) c.args.at) (sym c.bad_text.ensures)
    (ap (λ fs. verdict e (back (nest (outside root) fs)) (drop c.args.at bytes) c.args.at) c.requires.at_top
    ∙ top_breaks e bytes root c.args.at c.space_end-end.result c.space_end-end.ensures.forth c.if-end-bytes.true
    c.space_end-end.ensures.spaces (c.space_end-end.ensures.ends c.if-end-bytes.true)
    (c.is_at.ensures.other c.if-is_at.false c.if-end-bytes.true)))

pub returns-clause-ok : goal.returns-clause-ok
returns-clause-ok c =
    let e = c.args.encoding in
    let bytes = c.args.bytes.now in
    let root = c.args.stack.root in
    ap (λ fs. verdict e (back (nest (outside root) fs)) (drop c.args.at bytes) c.args.at) c.requires.at_top
    ∙ top_stays e bytes root c.args.at c.space_end-end.result c.space_end-end.ensures.forth
    c.space_end-end.ensures.within c.space_end-end.ensures.spaces
    ∙ ap (λ fs. verdict e (back (nest (outside root) fs)) (drop c.space_end-end.result bytes) c.space_end-end.result)
    (sym c.requires.at_top)
