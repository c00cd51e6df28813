use Rattle.file_fetch.proofs.OnePart.{open_longer}
use Rattle.file_fetch.proofs.parts.append_part.Goals as goal

pub returns-in-Ok-clause-open : goal.returns-in-Ok-clause-open
returns-in-Ok-clause-open g c =
    open_longer _ _ _ _ c.requires.open c.in-Ok.ensures.still_open c.in-Ok.ensures.bytes c.in-Ok.ensures.others

pub returns-in-Ok-clause-faithful : goal.returns-in-Ok-clause-faithful
returns-in-Ok-clause-faithful g c = λ w. record { faithful = c.in-Ok.ensures.images.faithful w }

pub returns-in-Err-clause-faithful : goal.returns-in-Err-clause-faithful
returns-in-Err-clause-faithful g c = λ w. record { faithful = c.in-Err.ensures.images.faithful w }
