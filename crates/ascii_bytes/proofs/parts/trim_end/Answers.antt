use Rattle.std.proofs.Common.{sym, ◌∙◌, arith}
use Rattle.ascii_bytes.proofs.Texts.{trimmed_before, other_before}
use Rattle.ascii_bytes.proofs.parts.trim_end.Goals as goal

pub returns-then-not-has : goal.returns-then-not-has
returns-then-not-has g c =
    other_before g.C.ByteClass.has c.args.text.now c.loop-end.end c.loop-end-test.true c.loop-end.invariant.within
    (sym c.has.ensures ∙ c.if-not-has.true)
    ∙ c.loop-end.invariant.cut

pub loop-end-preserved : goal.loop-end-preserved
loop-end-preserved g c =
    let other = sym c.has.ensures ∙ c.if-not-has.false in
    record {
      within = omega (arith, c.loop-end.invariant.within);
      cut = trimmed_before g.C.ByteClass.has c.args.text.now c.loop-end.end c.loop-end-test.true
          c.loop-end.invariant.within other ∙ c.loop-end.invariant.cut;
    }
