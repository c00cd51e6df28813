use Rattle.round_core.specs.Rounds.{rounds_of}
use Rattle.round_core.proofs.GoingOn.{all_grow, has_waited}
use Rattle.round_core.proofs.laws.standing_laws.Goals as goal

pub returns-clause-waited : goal.returns-clause-waited
returns-clause-waited c = λ known ask round choices needs is.
    has_waited known ask (rounds_of known ask) (c.ending_laws.ensures.ends known ask) round choices needs is

pub returns-clause-waits : goal.returns-clause-waits
returns-clause-waits c = λ before after ask round chosen more waited.
    record { did = c.growth_laws.ensures.did before after ask round chosen more waited.did; few = waited.few }

pub returns-clause-lasting : goal.returns-clause-lasting
returns-clause-lasting c = λ before after repos projects more all.
    all_grow before after repos (λ c' done. c.build_laws.ensures.answer before after repos c' more done) projects all
