use Rattle.std.proofs.Common.{◌≡◌, ◌≤◌, drop, length}
use Rattle.pom_grammar.specs.Characters.{begins_with}
use Rattle.pom_text.proofs.scans.stands.Given as goal

abbrev pub invariant-loop-byte : goal.invariant-loop-byte
invariant-loop-byte l =
    (l.i ≤ length l.bytes)
    × (begins_with l.literal (drop l.at l.bytes) ≡ begins_with (drop l.byte-index l.literal) (drop l.i l.bytes))
