use Rattle.std.proofs.Common.{◌≡◌, slice_range}
use Rattle.version_order.specs.Ranks.{without_zeros}
use Rattle.version_order.proofs.item.number.Given as goal

-- only zeros were passed
abbrev pub invariant-loop-i : goal.invariant-loop-i
invariant-loop-i l =
    without_zeros (slice_range l.lowered l.i l.end) ≡ without_zeros (slice_range l.lowered l.start l.end)
