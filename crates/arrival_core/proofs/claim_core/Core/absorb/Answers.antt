use Rattle.std.proofs.Common.{false, sym, ◌∙◌, ap, subst}
use Rattle.arrival_core.proofs.Keeping.{kept_end}
use Rattle.arrival_core.specs.Cores.{State, then_by}
use Rattle.arrival_core.specs.Kept.{IsKept}
use Rattle.arrival_core.specs.Resolving.{resolver_of}
use Rattle.claim_log.specs.Logs.{Log}
use Rattle.claim_rules.specs.Histories.{arrive}
use Rattle.arrival_core.proofs.claim_core.Core.absorb.Goals as goal

pub invariant_of-self-in-Ok : goal.invariant_of-self-in-Ok
invariant_of-self-in-Ok c =
    let core = c.self.inside in
    subst (λ (log : Log). IsKept core.ask core.settings log core.progress core.built core.agenda false) (sym c.in-Ok.ensures.ok)
    (kept_end core.ask core.settings core.log core.progress core.built core.agenda
    (λ h e legal may. c.legal_histories.ensures.more core.settings (resolver_of core.ask) h e legal may)
    (λ e stood. c.rounds_stand.ensures.grows core.ask core.log.history e core.progress core.built stood) c.args.seat core.caught_up
    c.self.invariant (arrive c.args.key.now c.args.reading) c.in-Ok.ensures.claimed)

pub invariant_of-self : goal.invariant_of-self
invariant_of-self c =
    let core = c.self.inside in
    subst (λ (log : Log). IsKept core.ask core.settings log core.progress core.built core.agenda core.caught_up) (sym c.in-Err.ensures.unchanged) c.self.invariant

pub returns-in-Ok-clause-ok : goal.returns-in-Ok-clause-ok
returns-in-Ok-clause-ok c =
    let core = c.self.inside in
    ap (λ (log : Log). record { ask = core.ask; settings = core.settings; history = log.history; caught_up = false; progress = core.progress })
    c.in-Ok.ensures.ok
    ∙ ap (λ (s : State). then_by s c.args.seat (arrive c.args.key.now c.args.reading) false) c.self.view_is
