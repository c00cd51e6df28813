use Rattle.std.proofs.Common.{sym, ◌∙◌, arith}
use Rattle.version_order.proofs.Ends.{plain_stuck, special_stuck}
use Rattle.version_order.proofs.shape.read_plain.Goals as goal

pub returns-then-end-bytes-clause-refused : goal.returns-then-end-bytes-clause-refused
returns-then-end-bytes-clause-refused c =
    let end = c.class_end-end.ensures in
    plain_stuck c.args.bytes.now c.class_end-end.result c.if-end-bytes.true end.passed
    (end.stops c.if-end-bytes.true) c.requires.no_square c.requires.no_round

pub returns-then-is_special-clause-refused : goal.returns-then-is_special-clause-refused
returns-then-is_special-clause-refused c =
    let end = c.class_end-end.ensures in
    special_stuck c.args.bytes.now c.class_end-end.result
    (omega (arith, end.within, c.if-end-bytes.false)) c.requires.within end.passed
    (sym c.is_special.ensures ∙ c.if-is_special.true)
