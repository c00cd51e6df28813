use Rattle.std.proofs.Common.{◌≡◌, ◌∷◌, map, take, string_bytes}
use Rattle.case_words.specs.Names.{rule_word}
use Rattle.project_cases.specs.Poms.{row_word}
use Rattle.project_cases.proofs.poms.dep_word.Given as goal

abbrev pub invariant-loop-rule : goal.invariant-loop-rule
invariant-loop-rule l = map string_bytes l.words.items ≡ row_word l.dep ∷ map rule_word (take l.rule-index l.rule-items)
