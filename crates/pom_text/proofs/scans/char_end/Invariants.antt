use Rattle.std.proofs.Common.{◌≡◌, true}
use Rattle.pom_grammar.specs.Machine.{Kind}
use Rattle.pom_text.specs.Scans.{Partial, is_whole}
use Rattle.pom_text.proofs.scans.char_end.Given as goal

abbrev pub invariant-loop-i : goal.invariant-loop-i
invariant-loop-i l =
    ((kind : Kind) → Partial l.encoding l.bytes kind l.at l.i l.tail) × (is_whole l.tail ≡ true → l.i ≡ l.at)
