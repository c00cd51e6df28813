use Rattle.std.proofs.Common.{map}
use Rattle.case_words.specs.HexWord.{hex_word}
use Rattle.case_words.proofs.Joins.{pieces-joined}
use Rattle.case_words.proofs.names.texts_of.Goals as goal

pub returns : goal.returns
returns c =
    pieces-joined 44 c.args.word.now (map hex_word c.in_ok-some_texts_of.field-0) c.as_slice.result.now c.in_ok-words.words.items c.in_ok-some_texts_of.ensures c.as_slice.ensures.value c.in_ok-words.ensures
