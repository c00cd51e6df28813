use Rattle.std.proofs.Common.{slice_range, sym, ◌∙◌, refl}
use Rattle.version_order.specs.Constraints.{only}
use Rattle.version_order.specs.ConstraintReader.{first, second, opened, closed}
use Rattle.version_order.specs.Shapes.{bound_in}
use Rattle.version_order.proofs.Reading.{comma}
use Rattle.version_order.proofs.Ends.{ends_on, ends_stuck, first_single, first_stuck}
use Rattle.version_order.proofs.shape.read_interval.Goals as goal

pub returns-in-Err-clause-refused : goal.returns-in-Err-clause-refused
returns-in-Err-clause-refused c = c.in-Err.ensures.refused (first c.args.square) c.requires.begun

pub read_second-requires-clause-begun : goal.read_second-requires-clause-begun
read_second-requires-clause-begun c =
    let text = c.args.bytes.now in
    let low = bound_in text c.in-Ok.low in
    ends_on (first c.args.square) low text c.in-Ok.low.stop 44
    (opened (second c.args.square low)) c.in-Ok.ensures.sound.stops
    (c.in-Ok.ensures.read (first c.args.square) c.requires.begun) c.if-c-eq44.true (comma c.args.square low)

pub read_single-requires-clause-closed : goal.read_single-requires-clause-closed
read_single-requires-clause-closed c =
    let text = c.args.bytes.now in
    let low = c.in-Ok.low in
    let ended = first_single text c.args.square low _ (sym c.ends_single.ensures ∙ c.if-ends_single.true) in
    ends_on (first c.args.square) (bound_in text low) text low.stop _
    (closed (only (slice_range text low.start low.end))) c.in-Ok.ensures.sound.stops
    (c.in-Ok.ensures.read (first c.args.square) c.requires.begun) refl ended

pub returns-clause-refused : goal.returns-clause-refused
returns-clause-refused c =
    let text = c.args.bytes.now in
    let low = c.in-Ok.low in
    ends_stuck (first c.args.square) (bound_in text low) text low.stop c.in-Ok.ensures.sound.stops
    (c.in-Ok.ensures.read (first c.args.square) c.requires.begun)
    (first_stuck text c.args.square low _ c.in-Ok.ensures.sound.rises c.if-c-eq44.false (sym c.ends_single.ensures ∙ c.if-ends_single.false))
