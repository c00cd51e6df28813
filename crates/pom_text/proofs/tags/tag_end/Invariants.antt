use Rattle.std.proofs.Common.{◌≡◌, ℕ, List, ◌≤◌, ◌<◌, ◌-◌, true, false, length, slice_range, slice_index}
use Rattle.std.specs.List.{list_all}
use Rattle.ascii_bytes.specs.Classes.{is_white}
use Rattle.pom_grammar.specs.Machine.{OpenElements, in_tag, closed}
use Rattle.pom_text.specs.Scans.{Goes}
use Rattle.pom_text.proofs.tags.tag_end.Given as goal

abbrev pub invariant-loop-encoding : goal.invariant-loop-encoding
invariant-loop-encoding l =
    (l.at ≤ l.i) × (l.i ≤ l.next) × (l.next ≤ length l.bytes)
    × (list_all is_white (slice_range l.bytes l.i l.next) ≡ true)
    × (l.next < length l.bytes → is_white (slice_index l.bytes l.next) ≡ false)
    × ((name : List ℕ) (place : OpenElements)
    → Goes l.encoding l.bytes (in_tag closed name place) l.at (in_tag closed name place) l.i)

abbrev pub decreases-loop-encoding : goal.decreases-loop-encoding
decreases-loop-encoding l = length l.initial.bytes - l.i
