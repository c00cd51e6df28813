use Rattle.std.proofs.Common.{false, refl, sym, ◌∙◌, ap, subst}
use Rattle.arrival_core.proofs.Keeping.{kept_end}
use Rattle.arrival_core.specs.Cores.{State, then_by}
use Rattle.arrival_core.specs.Kept.{IsKept}
use Rattle.arrival_core.specs.Resolving.{resolver_of}
use Rattle.claim_log.specs.Logs.{Log}
use Rattle.claim_rules.specs.Histories.{broke}
use Rattle.arrival_core.proofs.claim_core.Core.broke.Goals as goal

pub invariant_of-self : goal.invariant_of-self
invariant_of-self c =
    let core = c.self.inside in
    subst (λ (log : Log). IsKept core.ask core.settings log core.progress core.built core.agenda core.caught_up) (sym c.in_err-broke.ensures.err) c.self.invariant

pub invariant_of-self-2 : goal.invariant_of-self-2
invariant_of-self-2 c =
    let core = c.self.inside in
    subst (λ (log : Log). IsKept core.ask core.settings log core.progress core.built core.agenda false) (sym c.in_ok-broke.ensures.ok)
    (kept_end core.ask core.settings core.log core.progress core.built core.agenda
    (λ h e legal may. c.legal_histories.ensures.more core.settings (resolver_of core.ask) h e legal may)
    (λ e stood. c.rounds_stand.ensures.grows core.ask core.log.history e core.progress core.built stood) c.args.seat core.caught_up
    c.self.invariant (broke c.args.key.now c.args.why) (c.in_ok-broke.ensures.claimed.0 refl))

pub returns-clause-ok : goal.returns-clause-ok
returns-clause-ok c =
    let core = c.self.inside in
    ap (λ (log : Log). record { ask = core.ask; settings = core.settings; history = log.history; caught_up = false; progress = core.progress })
    c.in_ok-broke.ensures.ok
    ∙ ap (λ (s : State). then_by s c.args.seat (broke c.args.key.now c.args.why) false) c.self.view_is
