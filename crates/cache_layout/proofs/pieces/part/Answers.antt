use Rattle.std.proofs.Common.{length, sym, subst, arith, inl, inr, refl, drop, ◌≡◌, ◌+◌, ◌∙◌, ap, ◌∷◌}
use Rattle.std.proofs.lemmas.List.{take_all, take_rest}
use Rattle.cache_layout.specs.Places.{Lacks, Begins}
use Rattle.cache_layout.proofs.Words.{begins_at, lacks_more}
use Rattle.cache_layout.proofs.pieces.part.Goals as goal

pub loop-i-preserved : goal.loop-i-preserved
loop-i-preserved c = lacks_more c.args.byte c.args.text.now c.loop-i.i c.loop-i-test.true c.loop-i.invariant
    c.if-b-byte.false

pub returns-then-b-byte-clause-before : goal.returns-then-b-byte-clause-before
returns-then-b-byte-clause-before c = record {
  lacks = c.loop-i.invariant;
  begins = subst (Begins c.args.byte) (sym (take_rest c.args.text.now c.loop-i.i))
      (begins_at c.args.byte c.args.text.now c.loop-i.i c.loop-i-test.true c.if-b-byte.true);
}

pub returns-clause-before : goal.returns-clause-before
returns-clause-before c =
    let all : c.loop-i.i ≡ length c.args.text.now = omega arith in
    record {
      lacks = subst (Lacks c.args.byte) (take_all c.loop-i.i c.args.text.now (omega (arith, all))) c.loop-i.invariant;
      begins = inl refl;
    }
