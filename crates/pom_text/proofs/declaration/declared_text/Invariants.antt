use Rattle.std.proofs.Common.{◌≡◌, ℕ, [], drop, slice_range}
use Rattle.pom_grammar.specs.Characters.{onto}
use Rattle.pom_grammar.specs.Heads.{in_declaration, nothing_told}
use Rattle.pom_grammar.specs.Verdicts.{reading_verdict}
use Rattle.pom_text.specs.DeclarationViews.{IsNamed, seen_view, ends_question}
use Rattle.pom_text.proofs.declaration.declared_text.Given as goal

abbrev pub invariant-loop-i : goal.invariant-loop-i
invariant-loop-i l =
    IsNamed l.i l.seen.named × (l.seen.question ≡ ends_question (onto (slice_range l.bytes l.at l.i) []))
    × ((space : ℕ)
    → reading_verdict (in_declaration space [] nothing_told) (drop l.at l.bytes) l.at
    ≡ reading_verdict
    (in_declaration space (onto (slice_range l.bytes l.at l.i) []) (seen_view l.bytes l.i l.seen))
    (drop l.i l.bytes) l.i)
