use Rattle.std.proofs.Common.{true, false, refl}
use Rattle.version_order.specs.Constraints.{interval_of}
use Rattle.version_order.specs.ConstraintReader.{second, closed}
use Rattle.version_order.specs.Shapes.{bound_in}
use Rattle.version_order.proofs.Ends.{ends_on, ends_stuck, second_stuck}
use Rattle.version_order.proofs.shape.read_second.Goals as goal

pub returns-in-Err-clause-refused : goal.returns-in-Err-clause-refused
returns-in-Err-clause-refused c =
    c.in-Err.ensures.refused (second c.args.square (bound_in c.args.bytes.now c.args.low)) c.requires.begun

pub read_end-requires-clause-closed : goal.read_end-requires-clause-closed
read_end-requires-clause-closed c =
    let text = c.args.bytes.now in
    let low = bound_in text c.args.low in
    let high = bound_in text c.in-Ok.high in
    ends_on (second c.args.square low) high text c.in-Ok.high.stop 93
    (closed (interval_of c.args.square low high true)) c.in-Ok.ensures.sound.stops
    (c.in-Ok.ensures.read (second c.args.square low) c.requires.begun) c.if-c-eq93.true refl

pub read_end-requires-then-c-eq41-clause-closed : goal.read_end-requires-then-c-eq41-clause-closed
read_end-requires-then-c-eq41-clause-closed c =
    let text = c.args.bytes.now in
    let low = bound_in text c.args.low in
    let high = bound_in text c.in-Ok.high in
    ends_on (second c.args.square low) high text c.in-Ok.high.stop 41
    (closed (interval_of c.args.square low high false)) c.in-Ok.ensures.sound.stops
    (c.in-Ok.ensures.read (second c.args.square low) c.requires.begun) c.if-c-eq41.true refl

pub returns-clause-refused : goal.returns-clause-refused
returns-clause-refused c =
    let text = c.args.bytes.now in
    let low = bound_in text c.args.low in
    let high = bound_in text c.in-Ok.high in
    ends_stuck (second c.args.square low) high text c.in-Ok.high.stop c.in-Ok.ensures.sound.stops
    (c.in-Ok.ensures.read (second c.args.square low) c.requires.begun)
    (second_stuck c.args.square low high _ c.if-c-eq93.false c.if-c-eq41.false)
