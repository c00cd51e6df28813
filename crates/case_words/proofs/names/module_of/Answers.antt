use Rattle.case_words.proofs.Joins.{two-pieces}
use Rattle.case_words.proofs.names.module_of.Goals as goal

pub returns : goal.returns
returns c =
    two-pieces 58 c.args.word.now c.as_slice.result.now c.in_ok-pieces.pieces.items _ _ _ c.as_slice.ensures.value c.in_ok-pieces.ensures
    c.in-len2.len_at_least c.in-len2.len_below c.in_ok-text_of.ensures.read c.in_ok-text_of-2.ensures.read
