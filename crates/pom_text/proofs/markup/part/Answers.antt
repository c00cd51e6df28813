use Rattle.std.proofs.Common.{inl, inr, ◌∙◌, ap, drop}
use Rattle.std.proofs.lemmas.Result.{IfOk-weaker, IfErr-weaker}
use Rattle.pom_grammar.specs.Machine.{outside, back}
use Rattle.pom_grammar.specs.Verdicts.{verdict}
use Rattle.pom_text.specs.Views.{nest}
use Rattle.pom_text.proofs.TagFacts.{nest_one}
use Rattle.pom_text.proofs.markup.part.Goals as goal

pub returns-in-Some-clause-ok : goal.returns-in-Some-clause-ok
returns-in-Some-clause-ok c =
    IfOk-weaker c.inner_part.result _ _
    (λ next on.
    ap (λ p. verdict c.args.encoding (back p) (drop c.args.at c.args.bytes.now) c.args.at)
    (ap (nest (outside c.args.stack.root)) c.in-Some.ensures
    ∙ nest_one (outside c.args.stack.root) c.pop.new.self c.in-Some.frame)
    ∙ on) c.inner_part.ensures.ok

pub returns-in-Some-clause-err : goal.returns-in-Some-clause-err
returns-in-Some-clause-err c =
    IfErr-weaker c.inner_part.result _ _
    (λ fault f. elim f [
      | inl a ↦ inl a
      | inr b ↦ inr
          (ap (λ p. verdict c.args.encoding (back p) (drop c.args.at c.args.bytes.now) c.args.at)
          (ap (nest (outside c.args.stack.root)) c.in-Some.ensures
          ∙ nest_one (outside c.args.stack.root) c.pop.new.self c.in-Some.frame) ∙ b)
    ]) c.inner_part.ensures.err
