use Rattle.std.proofs.Common.{◌≡◌, map, take}
use Rattle.case_words.specs.HexWord.{hex_word}
use Rattle.case_words.specs.Words.{texts_of}
use Rattle.case_words.proofs.names.some_texts_of.Given as goal

abbrev pub invariant-loop-word : goal.invariant-loop-word
invariant-loop-word l = map hex_word l.texts ≡ texts_of (take l.word-index l.words)
