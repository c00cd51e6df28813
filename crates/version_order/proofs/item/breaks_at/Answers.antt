use Rattle.std.proofs.Common.{refl}
use Rattle.version_order.proofs.Slices.{range-cons}
use Rattle.std.proofs.Common.{arith}
use Rattle.version_order.proofs.item.breaks_at.Goals as goal

pub returns-then-start-i : goal.returns-then-start-i
returns-then-start-i c =
    rw
    (c.is_digit.ensures, c.is_digit-then-start-i.ensures, range-cons c.args.lowered.now c.args.start c.args.i c.if-start-i.true (omega (arith, c.requires.within))) refl
