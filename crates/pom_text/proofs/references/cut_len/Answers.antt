use Rattle.std.proofs.Common.{sym, ◌∙◌, arith}
use Rattle.pom_text.proofs.TextFacts.{cut_is}
use Rattle.pom_text.proofs.references.cut_len.Goals as goal

pub returns-else-is_white-clause-value : goal.returns-else-is_white-clause-value
returns-else-is_white-clause-value c =
    cut_is c.args.bytes.now c.loop-end.end c.loop-end.invariant.0 c.loop-end.invariant.1
    (λ _. sym c.is_white.ensures ∙ c.if-is_white.false)

pub returns-after-loop-end-clause-value : goal.returns-after-loop-end-clause-value
returns-after-loop-end-clause-value c =
    cut_is c.args.bytes.now c.loop-end.end c.loop-end.invariant.0 c.loop-end.invariant.1
    (λ h. absurd (omega (arith, h, c.loop-end-test.false)))
