use Rattle.std.proofs.Common.{◌+◌, get_or, slice_range, sym, ◌∙◌, ap}
use Rattle.version_order.specs.Ranks.{without_zeros, number_rank}
use Rattle.version_order.proofs.Slices.{range-cons}
use Rattle.version_order.proofs.Steps.{zero_passed, number_at}
use Rattle.version_order.proofs.item.number.Goals as goal

pub loop-i-preserved : goal.loop-i-preserved
loop-i-preserved c =
    let cut = range-cons c.args.lowered.now c.loop-i.i c.args.end c.loop-i-test.true c.requires.ends in
    sym
    (ap without_zeros cut ∙ zero_passed (get_or c.args.lowered.now c.loop-i.i 0) (slice_range c.args.lowered.now (c.loop-i.i + 1) c.args.end) c.if-lowered-i-ne48.false) ∙ c.loop-i.invariant

pub returns-then-lowered-i-ne48-clause-value : goal.returns-then-lowered-i-ne48-clause-value
returns-then-lowered-i-ne48-clause-value c =
    number_at c.args.lowered.now c.loop-i.i c.args.end c.loop-i-test.true c.requires.ends c.if-lowered-i-ne48.true ∙ ap number_rank c.loop-i.invariant
