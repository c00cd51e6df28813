use Rattle.std.proofs.Common.{◌≡◌, ◌+◌, ◌*◌, ◌≤◌, [], drop, length}
use Rattle.property_text.specs.Cuts.{segments_of, with_holes}
use Rattle.property_text.specs.Filled.{filled_segments, filled_value, prefixed}
use Rattle.property_text.specs.Segments.{with_bytes}
use Rattle.property_text.specs.Values.{value_in}
use Rattle.property_text.proofs.fill.CutValues.+fill.Given as goal

abbrev pub decreases-push_cut : goal.decreases-push_cut
decreases-push_cut l = 2 * l.depth + 1

abbrev pub decreases-push_hole : goal.decreases-push_hole
decreases-push_hole l = 2 * l.depth

-- what was asked for is what is there, and the rest
abbrev pub invariant-push_cut-loop-hole : goal.invariant-push_cut-loop-hole
invariant-push_cut-loop-hole l =
    (length l.progress.text ≤ 65536)
    × (prefixed l.fn.progress.text (filled_segments (value_in l.self) (filled_value (value_in l.self) l.depth) (segments_of l.cut) l.fn.progress.left)
    ≡ prefixed l.progress.text (filled_segments (value_in l.self) (filled_value (value_in l.self) l.depth) (with_holes (drop l.hole-index l.cut.holes.items) (with_bytes l.cut.rest.now [])) l.progress.left))
