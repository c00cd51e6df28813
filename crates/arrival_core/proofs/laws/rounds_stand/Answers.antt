use Rattle.arrival_core.proofs.Standing.{stood_bare, stood_grows, stood_made}
use Rattle.arrival_core.proofs.laws.rounds_stand.Goals as goal

pub returns-clause-grows : goal.returns-clause-grows
returns-clause-grows c = λ ask h e stood built is.
    stood_grows ask _ _ stood built (c.legal_histories.ensures.grows h _)
    (λ round chosen. c.standing_laws.ensures.waits _ _ ask round chosen (c.legal_histories.ensures.grows h _))
    (λ projects. c.standing_laws.ensures.lasting _ _ ask.repos projects (c.legal_histories.ensures.grows h _))
    (λ over. c.growth_laws.ensures.over _ _ ask (c.legal_histories.ensures.grows h _) over) is

pub returns-clause-made : goal.returns-clause-made
returns-clause-made c = λ ask known stood built is lasting.
    stood_made ask known stood built is (λ round choices needs e. c.standing_laws.ensures.waited known ask round choices needs e) lasting

pub returns-clause-bare : goal.returns-clause-bare
returns-clause-bare c = λ ask known stood built is. stood_bare ask known stood built is
