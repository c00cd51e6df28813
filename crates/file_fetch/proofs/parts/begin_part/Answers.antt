use Rattle.file_fetch.proofs.parts.begin_part.Goals as goal

pub returns-in-Ok-clause-faithful : goal.returns-in-Ok-clause-faithful
returns-in-Ok-clause-faithful g c = λ w. record { faithful = c.in-Ok.ensures.images.faithful w }

pub returns-in-Err-clause-faithful : goal.returns-in-Err-clause-faithful
returns-in-Err-clause-faithful g c = λ w. record { faithful = c.in-Err.ensures.images.faithful w }
