use Rattle.file_fetch.proofs.Judging.{sealed_damage}
use Rattle.file_fetch.proofs.artifacts.seal_digest.Goals as goal

pub returns-in-Ok-None-clause-damage : goal.returns-in-Ok-None-clause-damage
returns-in-Ok-None-clause-damage g c = λ all holds.
    sealed_damage _ _ _ _ c.requires.kind (rw c.in-Ok-None.field-0-is at (c.in-Ok-None.ensures.digest all holds))

pub returns-in-Ok-Some-clause-damage : goal.returns-in-Ok-Some-clause-damage
returns-in-Ok-Some-clause-damage g c = λ all holds.
    sealed_damage _ _ _ _ c.requires.kind (rw c.in-Ok-Some.field-0-is at (c.in-Ok-Some.ensures.digest all holds))
