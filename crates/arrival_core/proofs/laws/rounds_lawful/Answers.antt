use Rattle.arrival_core.proofs.Lawful.{lawful}
use Rattle.arrival_core.proofs.laws.rounds_lawful.Goals as goal

pub returns : goal.returns
returns c ask =
    lawful ask (λ known other same. c.look_laws.ensures.rounds known other ask same)
    (λ known other same. c.look_laws.ensures.reads known other ask same)
    (λ before after key g. c.growth_laws.ensures.reads before after ask key g)
    (λ known key. c.wait_laws.ensures.opens known ask key)
    (λ known key. c.wait_laws.ensures.unknown known ask key)
    (λ known key. c.wait_laws.ensures.read known ask key)
    (λ known round choices needs. c.wait_laws.ensures.some known ask round choices needs)
