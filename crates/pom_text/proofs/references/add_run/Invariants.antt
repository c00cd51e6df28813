use Rattle.std.proofs.Common.{◌≡◌, ◌-◌, ◌≤◌, length, drop}
use Rattle.pom_grammar.specs.Encodings.{IsText}
use Rattle.pom_grammar.specs.References.{expanded}
use Rattle.pom_grammar.specs.Machine.{join}
use Rattle.pom_text.proofs.references.add_run.Given as goal

abbrev pub invariant-loop-i : goal.invariant-loop-i
invariant-loop-i l =
    (l.i ≤ length l.run) × IsText l.encoding (drop l.i l.run)
    × (join l.initial.text (expanded l.encoding l.run) ≡ join l.text (expanded l.encoding (drop l.i l.run)))

abbrev pub decreases-loop-i : goal.decreases-loop-i
decreases-loop-i l = length l.initial.run - l.i
