use Rattle.std.proofs.Common.{◌≡◌, ◌≤◌, false, drop}
use Rattle.pom_grammar.specs.References.{number_from}
use Rattle.pom_text.proofs.references.digits_from.Given as goal

abbrev pub invariant-loop-i : goal.invariant-loop-i
invariant-loop-i l =
    (number_from l.hex false l.start 0 (drop l.start l.text) ≡ number_from l.hex l.some l.i l.value (drop l.i l.text))
    × (l.value ≤ 1114112)
