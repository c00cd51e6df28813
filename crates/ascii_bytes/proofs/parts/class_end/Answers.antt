use Rattle.std.proofs.Common.{sym, ◌∙◌}
use Rattle.ascii_bytes.proofs.Texts.{range_more}
use Rattle.ascii_bytes.proofs.parts.class_end.Goals as goal

pub loop-i-preserved : goal.loop-i-preserved
loop-i-preserved g c =
    range_more g.C.ByteClass.has c.args.text.now c.args.from c.loop-i.i c.loop-i.auto.i c.loop-i-test.true
    c.loop-i.invariant (sym c.has.ensures ∙ c.if-not-has.false)
