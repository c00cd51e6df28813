use Rattle.std.proofs.Common.{arith, ◌≡◌, ℕ, length, min}
use Rattle.cache_layout.proofs.Words.{common_more, common_stops, common_ends}
use Rattle.cache_layout.proofs.pieces.common.Goals as goal

pub loop-i-preserved : goal.loop-i-preserved
loop-i-preserved c =
    let one = common_more c.args.word.now c.args.text.now c.loop-i.i (omega arith) (omega arith) (omega arith) in
    let so_far = c.loop-i.invariant in
    omega (arith, one, so_far)

pub returns-then-word-i : goal.returns-then-word-i
returns-then-word-i c =
    let none = common_stops c.args.word.now c.args.text.now c.loop-i.i (omega arith) (omega arith) c.if-word-i.true in
    let so_far = c.loop-i.invariant in
    omega (arith, none, so_far)

pub returns : goal.returns
returns c =
    let none = common_ends c.args.word.now c.args.text.now c.loop-i.i (omega arith) in
    let so_far = c.loop-i.invariant in
    omega (arith, none, so_far)
