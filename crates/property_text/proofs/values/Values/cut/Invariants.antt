use Rattle.std.proofs.Common.{◌≡◌, length}
use Rattle.std.specs.Prelude.{All}
use denote.Text.{Utf8}
use denote.Shadow.{shadow}
use Rattle.property_text.specs.Cuts.{IsPlaced, with_holes}
use Rattle.property_text.specs.Segments.{segments}
use Rattle.property_text.proofs.values.Values.cut.Given as goal

abbrev pub invariant-loop-hole : goal.invariant-loop-hole
invariant-loop-hole l =
    shadow (Utf8 l.rest)
    × (segments l.fn.text ≡ with_holes l.holes.items (segments l.rest))
    × All (IsPlaced l.self) l.holes.items

abbrev pub decreases-loop-hole : goal.decreases-loop-hole
decreases-loop-hole l = length l.rest
