use Rattle.std.proofs.Common.{◌≡◌, drop}
use Rattle.pom_grammar.specs.Characters.{local, local_from}
use Rattle.pom_text.proofs.texts.local_start.Given as goal

abbrev pub invariant-loop-i : goal.invariant-loop-i
invariant-loop-i l = local l.name ≡ local_from l.name (drop l.i l.name)
