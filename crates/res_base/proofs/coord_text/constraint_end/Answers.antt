use Rattle.std.proofs.Common.{◌≡◌, ◌+◌, ◌≤◌, sym, ◌∙◌, refl, length, [], take, get_or, arith}
use Rattle.std.specs.Prelude.{slice_range}
use Rattle.res_base.specs.CoordReader.{in_constraint}
use Rattle.res_base.proofs.CoordSteps.{stops, ends, in_constraint_more, constraint_stuck}
use Rattle.res_base.proofs.coord_text.constraint_end.Goals as goal

pub returns-then-not-is_constraint_byte-clause-refused : goal.returns-then-not-is_constraint_byte-clause-refused
returns-then-not-is_constraint_byte-clause-refused c =
    let org = take c.args.first c.args.text.now in
    let name = slice_range c.args.text.now (c.args.first + 1) c.args.second in
    let begun = slice_range c.args.text.now (c.args.second + 1) c.loop-k.k in
    stops c.args.text.now c.loop-k.k (in_constraint org name begun) c.loop-k-test.true c.loop-k.invariant
    (constraint_stuck org name begun (get_or c.args.text.now c.loop-k.k 0)
    (sym c.is_constraint_byte.ensures ∙ c.if-not-is_constraint_byte.true))

pub loop-k-preserved : goal.loop-k-preserved
loop-k-preserved c =
    let from : c.args.second + 1 ≤ c.loop-k.k = omega arith in
    in_constraint_more c.args.text.now (take c.args.first c.args.text.now)
    (slice_range c.args.text.now (c.args.first + 1) c.args.second)
    (c.args.second + 1) c.loop-k.k from c.loop-k-test.true c.loop-k.invariant
    (sym c.is_constraint_byte.ensures ∙ c.if-not-is_constraint_byte.false)

pub returns-then-second-text-clause-refused : goal.returns-then-second-text-clause-refused
returns-then-second-text-clause-refused c =
    let org = take c.args.first c.args.text.now in
    let name = slice_range c.args.text.now (c.args.first + 1) c.args.second in
    let all : c.args.second + 1 ≡ length c.args.text.now = omega arith in
    ends c.args.text.now (c.args.second + 1) (in_constraint org name []) all c.requires.begun refl
