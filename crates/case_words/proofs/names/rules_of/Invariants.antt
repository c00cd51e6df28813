use Rattle.std.proofs.Common.{◌≡◌, map, take}
use Rattle.case_words.specs.Names.{rule_word}
use Rattle.case_words.specs.Words.{texts_of}
use Rattle.case_words.proofs.names.rules_of.Given as goal

abbrev pub invariant-loop-word : goal.invariant-loop-word
invariant-loop-word l = map rule_word l.rules ≡ texts_of (take l.word-index l.words)
