use Rattle.std.proofs.Common.{◌≡◌, ◌++◌, length}
use Rattle.std.specs.Str.{IsUtf8}
use Rattle.case_words.specs.Words.{pieces_of, texts_of}
use Rattle.case_words.proofs.words.pieces_of.Given as goal

abbrev pub invariant-loop-piece : goal.invariant-loop-piece
invariant-loop-piece l = IsUtf8 l.rest × (texts_of l.pieces.items ++ pieces_of l.separator l.rest ≡ pieces_of l.separator l.text)

abbrev pub decreases-loop-piece : goal.decreases-loop-piece
decreases-loop-piece l = length l.rest
