use Rattle.std.proofs.Common.{◌≡◌, map, take, string_bytes}
use Rattle.case_words.specs.Names.{rule_word}
use Rattle.case_words.proofs.names.set_word.Given as goal

abbrev pub invariant-loop-rule : goal.invariant-loop-rule
invariant-loop-rule l = map string_bytes l.rules.items ≡ map rule_word (take l.rule-index l.rule-items)
