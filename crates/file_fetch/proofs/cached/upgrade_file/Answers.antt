use Rattle.file_fetch.proofs.cached.upgrade_file.Goals as goal

pub returns-clause-faithful : goal.returns-clause-faithful
returns-clause-faithful g c = λ w. record { faithful = c.upgrade.ensures.images.faithful w }
