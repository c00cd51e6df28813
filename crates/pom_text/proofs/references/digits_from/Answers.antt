use Rattle.std.proofs.Common.{◌≡◌, ◌+◌, sym, ap, ◌∙◌, drop, get_or, arith}
use Rattle.std.proofs.lemmas.List.{drop_more}
use Rattle.pom_grammar.specs.References.{base_of, number_from}
use Rattle.pom_text.proofs.TextFacts.{number_step}
use Rattle.pom_text.proofs.references.digits_from.Goals as goal
use Rattle.pom_text.proofs.references.digits_from.Goals.{then-hex, else-hex}

pub loop-i-preserved : goal.loop-i-preserved
loop-i-preserved c =
    let base : c.if-hex.base ≡ base_of c.args.hex =
    elim c.if-hex.branch [
      | then-hex w ↦ w.base-is ∙ ap base_of (sym w.if-hex.true)
      | else-hex w ↦ w.base-is
          ∙ ap base_of (sym w.if-hex.false)
    ] in (
      c.loop-i.invariant.0
          ∙ ap (number_from c.args.hex c.loop-i.some c.loop-i.i c.loop-i.value)
          (drop_more c.args.text.now c.loop-i.i 0 c.loop-i-test.true)
          ∙ number_step c.args.hex c.loop-i.some c.loop-i.i c.loop-i.value c.in-Some.digit c.if-hex.base
          c.min-value.result (get_or c.args.text.now c.loop-i.i 0) (drop (c.loop-i.i + 1) c.args.text.now)
          (sym c.in-Some.ensures) base c.min-value.ensures,
      omega (arith, c.min-value.ensures),
    )
