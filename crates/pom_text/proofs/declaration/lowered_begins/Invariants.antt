use Rattle.std.proofs.Common.{◌≡◌, ◌≤◌, drop, length}
use Rattle.pom_grammar.specs.Characters.{begins_with}
use Rattle.pom_grammar.specs.Declarations.{lowered}
use Rattle.pom_text.proofs.declaration.lowered_begins.Given as goal

abbrev pub invariant-loop-letter : goal.invariant-loop-letter
invariant-loop-letter l =
    (l.i ≡ l.letter-index) × (l.i ≤ length l.wanted)
    × (begins_with (lowered l.name) l.wanted ≡ begins_with (lowered (drop l.letter-index l.name)) (drop l.i l.wanted))
