use Rattle.std.proofs.Common.{◌+◌}
use Rattle.session_rules.proofs.Bounds.{asks_few, legal_by, once, stops_by}
use Rattle.session_rules.proofs.laws.few_asked.Goals as goal

pub returns-clause-retried : goal.returns-clause-retried
returns-clause-retried g c r lawful old new before now finish all may due served asks grows holds =
    let legal = legal_by r old new before now finish served in
    let stops = stops_by r old new before now finish served in
    asks_few r old new before now finish served may (1 + old.settings.retries) due asks
    (c.asked_keys.ensures.few old.settings r lawful all may (1 + old.settings.retries) new.history due legal grows
    (λ key. c.claims_counted.ensures.few old.settings r new.history key legal stops) holds)

pub returns-clause-calm : goal.returns-clause-calm
returns-clause-calm g c r lawful old new before now finish all may due served asks grows holds calm =
    let legal = legal_by r old new before now finish served in
    let stops = stops_by r old new before now finish served in
    asks_few r old new before now finish served may 1 due asks
    (c.asked_keys.ensures.few old.settings r lawful all may 1 new.history due legal grows
    (λ key. once r old new before now finish served calm key
    (c.claims_counted.ensures.each old.settings r new.history key legal stops)) holds)
