use Rattle.std.proofs.Common.{◌<◌, sym, subst, arith, length}
use Rattle.version_order.specs.ConstraintReader.{IsRead}
use Rattle.version_order.proofs.Bounds.{ends_open, is_read, bound_there}
use Rattle.version_order.proofs.shape.bound_after.Goals as goal

pub returns-then-stop-bytes-clause-refused : goal.returns-then-stop-bytes-clause-refused
returns-then-stop-bytes-clause-refused c side here =
    let stop = c.class_end-stop.ensures in
    ends_open side c.args.bytes.now c.args.from c.args.start c.args.end c.class_end-stop.result here c.requires.blanks c.requires.blank c.requires.bound stop.from stop.within c.requires.plain stop.passed c.if-stop-bytes.true

pub returns-clause-read : goal.returns-clause-read
returns-clause-read c side here =
    let stop = c.class_end-stop.ensures in
    let inside : c.class_end-stop.result < length c.args.bytes.now = omega (arith, stop.within, c.if-stop-bytes.false) in
    let read = is_read side c.args.bytes.now c.args.from c.args.start c.args.end c.class_end-stop.result here c.requires.blanks c.requires.blank c.requires.bound stop.from stop.within c.requires.plain stop.passed (stop.stops inside) c.requires.other inside in
    subst (λ bound. IsRead side bound c.args.bytes.now c.class_end-stop.result)
    (sym (bound_there c.args.bytes.now c.args.start c.args.end c.class_end-stop.result c.requires.bound)) read
