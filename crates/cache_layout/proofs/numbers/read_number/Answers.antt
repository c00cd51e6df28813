use Rattle.std.proofs.Common.{inl, inr, length, refl, sym, ◌∙◌, arith}
use Rattle.std.proofs.lemmas.Bool.{eqb-false, eqb-true}
use Rattle.std.proofs.lemmas.List.{nil_from_length}
use Rattle.cache_layout.proofs.Decimals.{goes_next, no_number, read_whole, stops_at_byte}
use Rattle.cache_layout.proofs.numbers.read_number.Goals as goal

pub loop-i-init : goal.loop-i-init
loop-i-init c = inl (refl, refl)

pub loop-i-preserved : goal.loop-i-preserved
loop-i-preserved c =
    inr (goes_next c.args.least c.args.most c.requires.low c.requires.room (omega arith) c.args.text.now c.loop-i.i
    c.loop-i.number c.in-Some.more c.loop-i-test.true c.loop-i.invariant c.in-Some.ensures)

pub returns-then-is_empty-clause-refused : goal.returns-then-is_empty-clause-refused
returns-then-is_empty-clause-refused c =
    no_number c.args.least c.args.most c.requires.low c.requires.room (omega arith) c.args.text.now
    (nil_from_length c.args.text.now (eqb-true (length c.args.text.now) 0 (sym c.is_empty.ensures ∙ c.if-is_empty.true)))

pub returns-in-None-clause-refused : goal.returns-in-None-clause-refused
returns-in-None-clause-refused c =
    stops_at_byte c.args.least c.args.most c.requires.low c.requires.room (omega arith) c.args.text.now c.loop-i.i
    c.loop-i.number c.loop-i-test.true c.loop-i.invariant c.in-None.ensures

pub returns-clause-read : goal.returns-clause-read
returns-clause-read c =
    read_whole c.args.least c.args.most c.requires.low c.requires.room (omega arith) c.args.text.now c.loop-i.i
    c.loop-i.number c.loop-i-test.false
    (eqb-false (length c.args.text.now) 0 (sym c.is_empty.ensures ∙ c.if-is_empty.false)) c.loop-i.invariant
