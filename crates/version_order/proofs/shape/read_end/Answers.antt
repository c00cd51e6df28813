use Rattle.std.proofs.Common.{◌+◌}
use Rattle.version_order.specs.Constraints.{interval_of}
use Rattle.version_order.specs.Shapes.{bound_in}
use Rattle.version_order.proofs.Ends.{closed_stuck}
use Rattle.version_order.proofs.shape.read_end.Goals as goal

pub returns-then-high-bytes-clause-refused : goal.returns-then-high-bytes-clause-refused
returns-then-high-bytes-clause-refused c =
    closed_stuck c.args.bytes.now
    (interval_of c.args.square (bound_in c.args.bytes.now c.args.low) (bound_in c.args.bytes.now c.args.high) c.args.square_end)
    (c.args.high.stop + 1) c.if-high-bytes.true c.requires.closed
