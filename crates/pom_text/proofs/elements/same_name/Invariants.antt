use Rattle.std.proofs.Common.{◌≤◌, [], take, drop, length}
use Rattle.pom_grammar.specs.declared.encoding.Encoding.{Encoding}
use Rattle.pom_grammar.specs.Machine.{OpenElement, OpenElements, in_end}
use Rattle.pom_text.specs.Scans.{Goes}
use Rattle.pom_text.proofs.elements.same_name.Given as goal

abbrev pub invariant-loop-letter : goal.invariant-loop-letter
invariant-loop-letter l =
    (l.at ≤ l.i) × (l.i ≤ length l.bytes)
    × ((e : Encoding) (frame : OpenElement) (outer : OpenElements)
    → Goes e l.bytes (in_end [] l.raw frame outer) l.at
    (in_end (take l.letter-index l.raw) (drop l.letter-index l.raw) frame outer) l.i)
