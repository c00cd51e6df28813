use Rattle.file_fetch.proofs.parts.put_gone.Goals as goal

pub returns-in-Ok-clause-faithful : goal.returns-in-Ok-clause-faithful
returns-in-Ok-clause-faithful g c = λ w absent. record { faithful = c.in-Ok.ensures.faithful w absent }

pub returns-in-Err-clause-faithful : goal.returns-in-Err-clause-faithful
returns-in-Err-clause-faithful g c = λ w absent. record { faithful = c.in-Err.ensures.faithful w absent }
