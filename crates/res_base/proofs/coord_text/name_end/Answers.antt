use Rattle.std.proofs.Common.{◌≡◌, ℕ, ◌+◌, ◌≤◌, sym, ◌∙◌, refl, length, [], take, get_or, arith}
use Rattle.std.specs.Prelude.{◌==◌, slice_range}
use Rattle.std.proofs.lemmas.Bool.{and_left, and_right, ne_eqb}
use Rattle.res_base.specs.Plain.{is_plain_name}
use Rattle.res_base.specs.CoordReader.{in_name, in_constraint}
use Rattle.res_base.proofs.CoordSteps.{next, stops, ends, in_name_more, name_colon, name_stuck}
use Rattle.res_base.proofs.coord_text.name_end.Goals as goal

pub returns-then-byte-ne58-clause-refused : goal.returns-then-byte-ne58-clause-refused
returns-then-byte-ne58-clause-refused c =
    let org = take c.args.first c.args.text.now in
    let name = slice_range c.args.text.now (c.args.first + 1) c.loop-j.j in
    let b : ℕ = get_or c.args.text.now c.loop-j.j 0 in
    stops c.args.text.now c.loop-j.j (in_name org name) c.loop-j-test.true c.loop-j.invariant
    (name_stuck org name b (sym c.is_plain_byte.ensures ∙ c.if-not-is_plain_byte.true)
    (and_left (b == 58) (is_plain_name name) (ne_eqb b 58 c.if-byte-ne58.true)))

pub returns-then-not-is_plain_name-clause-refused : goal.returns-then-not-is_plain_name-clause-refused
returns-then-not-is_plain_name-clause-refused c =
    let org = take c.args.first c.args.text.now in
    let name = slice_range c.args.text.now (c.args.first + 1) c.loop-j.j in
    let b : ℕ = get_or c.args.text.now c.loop-j.j 0 in
    stops c.args.text.now c.loop-j.j (in_name org name) c.loop-j-test.true c.loop-j.invariant
    (name_stuck org name b (sym c.is_plain_byte.ensures ∙ c.if-not-is_plain_byte.true)
    (and_right (b == 58) (is_plain_name name) (sym c.is_plain_name.ensures ∙ c.if-not-is_plain_name.true)))

pub loop-j-preserved : goal.loop-j-preserved
loop-j-preserved c =
    let from : c.args.first + 1 ≤ c.loop-j.j = omega arith in
    in_name_more c.args.text.now (take c.args.first c.args.text.now)
    (c.args.first + 1) c.loop-j.j from c.loop-j-test.true c.loop-j.invariant
    (sym c.is_plain_byte.ensures ∙ c.if-not-is_plain_byte.false)

pub returns-clause-refused : goal.returns-clause-refused
returns-clause-refused c =
    let all : c.loop-j.j ≡ length c.args.text.now = omega arith in
    ends c.args.text.now c.loop-j.j (in_name (take c.args.first c.args.text.now)
    (slice_range c.args.text.now (c.args.first + 1) c.loop-j.j)) all c.loop-j.invariant refl

pub returns-then-not-is_plain_byte-clause-found : goal.returns-then-not-is_plain_byte-clause-found
returns-then-not-is_plain_byte-clause-found c =
    let text = c.args.text.now in
    let j = c.loop-j.j in
    let org = take c.args.first text in
    let name = slice_range text (c.args.first + 1) j in
    next text j (in_name org name) (in_constraint org name []) c.loop-j-test.true c.loop-j.invariant
    (name_colon org name (get_or text j 0) c.if-byte-ne58.false
    (sym c.is_plain_name.ensures ∙ c.if-not-is_plain_name.false))
