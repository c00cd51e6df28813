use Rattle.file_fetch.proofs.OnePart.{sealed_other, sealed_same}
use Rattle.file_fetch.proofs.Faith.{same_content}
use Rattle.file_fetch.proofs.parts.seal_part.Goals as goal

pub returns-in-Ok-clause-digest : goal.returns-in-Ok-clause-digest
returns-in-Ok-clause-digest g c = λ all holds. sealed_same _ all _ (c.in-Ok.ensures.digest all holds)

pub returns-in-Err-Differs-clause-digest : goal.returns-in-Err-Differs-clause-digest
returns-in-Err-Differs-clause-digest g c = λ all holds.
    sealed_other _ all _ _ (rw c.in-Err-Differs.field-0-is at (c.in-Err-Differs.ensures.digest all holds))

pub returns-in-Err-Differs-clause-content : goal.returns-in-Err-Differs-clause-content
returns-in-Err-Differs-clause-content g c = λ few all content.
    same_content g.D.Disk.told _ _ _ all
    (c.in-Err-Differs.ensures.unchanged (rw c.in-Err-Differs.field-0-is at c.in-Err-Differs.ensures.live)) content

pub returns-in-Ok-clause-faithful : goal.returns-in-Ok-clause-faithful
returns-in-Ok-clause-faithful g c = λ w. record { faithful = c.in-Ok.ensures.images.faithful w }

pub returns-in-Err-Differs-clause-faithful : goal.returns-in-Err-Differs-clause-faithful
returns-in-Err-Differs-clause-faithful g c = λ w. record { faithful = c.in-Err-Differs.ensures.images.faithful w }

pub returns-in-Err-clause-faithful : goal.returns-in-Err-clause-faithful
returns-in-Err-clause-faithful g c = λ w. record { faithful = c.in-Err.ensures.images.faithful w }

pub returns-in-Ok-clause-content : goal.returns-in-Ok-clause-content
returns-in-Ok-clause-content g c = λ few all content. c.in-Ok.ensures.contents _ all few content
