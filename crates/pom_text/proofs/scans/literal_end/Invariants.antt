use Rattle.std.proofs.Common.{◌≡◌, ◌+◌, ◌≤◌, drop, length}
use Rattle.pom_grammar.specs.declared.encoding.Encoding.{Encoding}
use Rattle.pom_grammar.specs.Machine.{OpenElement, OpenElements}
use Rattle.pom_text.specs.Scans.{Goes, cdata_state}
use Rattle.pom_text.proofs.scans.literal_end.Given as goal

abbrev pub invariant-loop-byte : goal.invariant-loop-byte
invariant-loop-byte l =
    (l.i ≡ l.at + l.byte-index) × (l.i ≤ length l.bytes)
    × ((e : Encoding) (frame : OpenElement) (outer : OpenElements)
    → Goes e l.bytes (cdata_state l.literal frame outer) l.at
    (cdata_state (drop l.byte-index l.literal) frame outer) l.i)
