use Rattle.file_fetch.proofs.Receiving.{none_more}
use Rattle.file_fetch.specs.Stores.{IsHeld}
use Rattle.file_fetch.proofs.artifacts.receive_piece.Goals as goal

pub returns-in-Ok-clause-within : goal.returns-in-Ok-clause-within
returns-in-Ok-clause-within g c = λ file is. rw c.in-Ok-Piece.field-0-is at (c.in-Ok-Piece.ensures.within file is)

pub returns-in-Ok-End-clause-within : goal.returns-in-Ok-End-clause-within
returns-in-Ok-End-clause-within g c = λ file is. rw c.in-Ok-End.field-0-is at (c.in-Ok-End.ensures.within file is)

pub returns-in-Ok-TooLarge-clause-within : goal.returns-in-Ok-TooLarge-clause-within
returns-in-Ok-TooLarge-clause-within g c = λ file is. rw c.in-Ok-TooLarge.field-0-is at (c.in-Ok-TooLarge.ensures.within file is)

pub returns-in-Ok-clause-bytes : goal.returns-in-Ok-clause-bytes
returns-in-Ok-clause-bytes g c = λ all held. record {
  sums = rw c.as_slice.ensures.value at (c.in-Ok.ensures.bytes all held.sums);
  content = rw c.as_slice.ensures.value at (c.in-Ok.ensures.content all held.content);
}

pub returns-in-Ok-End-clause-bytes : goal.returns-in-Ok-End-clause-bytes
returns-in-Ok-End-clause-bytes g c =
    none_more (IsHeld g.D.Disk.told c.args.store.now c.args.part.number) _ _ c.requires.file
    (λ file is. rw c.in-Ok-End.field-0-is at (c.in-Ok-End.ensures.within file is))

pub returns-in-Ok-TooLarge-clause-bytes : goal.returns-in-Ok-TooLarge-clause-bytes
returns-in-Ok-TooLarge-clause-bytes g c =
    none_more (IsHeld g.D.Disk.told c.args.store.now c.args.part.number) _ _ c.requires.file
    (λ file is. (rw c.in-Ok-TooLarge.field-0-is at (c.in-Ok-TooLarge.ensures.within file is)).0)
