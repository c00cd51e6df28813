use Rattle.std.proofs.Common.{◌+◌, slice_range}
use Rattle.version_order.specs.Constraints.{only}
use Rattle.version_order.proofs.Ends.{closed_stuck}
use Rattle.version_order.proofs.shape.read_single.Goals as goal

pub returns-then-bound-bytes-clause-refused : goal.returns-then-bound-bytes-clause-refused
returns-then-bound-bytes-clause-refused c =
    closed_stuck c.args.bytes.now (only (slice_range c.args.bytes.now c.args.bound.start c.args.bound.end))
    (c.args.bound.stop + 1) c.if-bound-bytes.true c.requires.closed
