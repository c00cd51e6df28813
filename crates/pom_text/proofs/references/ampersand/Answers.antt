use Rattle.std.proofs.Common.{ap, ◌∙◌, arith, get_or, slice_range}
use Rattle.std.specs.Prelude.{not}
use Rattle.std.proofs.lemmas.Bool.{ne_eqb}
use Rattle.std.proofs.lemmas.List.Edits.{between_more}
use Rattle.pom_text.specs.Texts.{is_no_ampersand, has_no_ampersand}
use Rattle.pom_text.proofs.Bytes.{every_one}
use Rattle.pom_text.proofs.references.ampersand.Goals as goal

pub loop-i-preserved : goal.loop-i-preserved
loop-i-preserved c =
    ap has_no_ampersand (between_more c.args.run.now c.args.from c.loop-i.i 0 (omega arith) c.loop-i-test.true)
    ∙ every_one is_no_ampersand (slice_range c.args.run.now c.args.from c.loop-i.i)
    (get_or c.args.run.now c.loop-i.i 0) c.loop-i.invariant
    (ap not (ne_eqb (get_or c.args.run.now c.loop-i.i 0) 38 c.if-run-i-eq38.false))
