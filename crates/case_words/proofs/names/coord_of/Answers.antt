use Rattle.case_words.proofs.Joins.{three-pieces}
use Rattle.case_words.proofs.names.coord_of.Goals as goal

pub returns : goal.returns
returns c =
    three-pieces 58 c.args.word.now c.as_slice.result.now c.in_ok-pieces.pieces.items _ _ _ _ c.as_slice.ensures.value c.in_ok-pieces.ensures
    c.in-len3.len_at_least c.in-len3.len_below c.in_ok-text_of.ensures.read c.in_ok-text_of-2.ensures.read c.in_ok-text_of-3.ensures.read
