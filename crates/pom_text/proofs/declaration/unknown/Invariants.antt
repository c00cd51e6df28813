use Rattle.std.proofs.Common.{◌≡◌, false, drop}
use Rattle.pom_grammar.specs.declared.encoding.Seek.TheVariants.{Nothing}
use Rattle.pom_grammar.specs.Declarations.{seeking}
use Rattle.pom_grammar.specs.Verdicts.{unknown_from}
use Rattle.pom_text.specs.DeclarationViews.{IsNamed, named_view, start_of}
use Rattle.pom_text.proofs.declaration.unknown.Given as goal

abbrev pub invariant-loop-i : goal.invariant-loop-i
invariant-loop-i l =
    IsNamed l.i l.named
    × (unknown_from 0 (seeking Nothing) false (drop l.at l.bytes) l.at
    ≡ unknown_from (start_of l.named) (named_view l.bytes l.i l.named) l.question (drop l.i l.bytes) l.i)
