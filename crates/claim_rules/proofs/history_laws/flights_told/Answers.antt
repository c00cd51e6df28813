use Rattle.claim_rules.specs.Histories.{Entry, key_in, in_flight}
use Rattle.claim_rules.proofs.Flying.{flying_any}
use Rattle.claim_rules.proofs.Members.{some_passes}
use Rattle.claim_rules.proofs.history_laws.flights_told.Goals as goal

pub returns-clause-any : goal.returns-clause-any
returns-clause-any c = flying_any c.equality_decided.ensures.keys

pub returns-clause-some : goal.returns-clause-some
returns-clause-some c h up =
    let one = some_passes (λ (e : Entry). in_flight h (key_in e.what)) h up in (key_in one.0.what, one.1)
