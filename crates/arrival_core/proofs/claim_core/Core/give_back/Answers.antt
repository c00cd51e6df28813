use Rattle.std.proofs.Common.{refl, sym, ◌∙◌, ap, subst}
use Rattle.arrival_core.proofs.Keeping.{kept_return}
use Rattle.arrival_core.specs.Cores.{State, then_by}
use Rattle.arrival_core.specs.Kept.{IsKept}
use Rattle.arrival_core.specs.Resolving.{resolver_of}
use Rattle.claim_log.specs.Logs.{Log}
use Rattle.claim_rules.specs.Histories.{give_back}
use Rattle.arrival_core.proofs.claim_core.Core.give_back.Goals as goal

pub invariant_of-self : goal.invariant_of-self
invariant_of-self c =
    let core = c.self.inside in
    subst (λ (log : Log). IsKept core.ask core.settings log core.progress core.built core.agenda core.caught_up) (sym c.in_err-give_back.ensures.err) c.self.invariant

pub invariant_of-self-2 : goal.invariant_of-self-2
invariant_of-self-2 c =
    let core = c.self.inside in
    let r = resolver_of core.ask in
    let key = c.args.key.now in
    subst (λ (log : Log). IsKept core.ask core.settings log core.progress core.built c.begin_anew.new.self core.caught_up) (sym c.in_ok-give_back.ensures.ok)
    (kept_return core.ask core.settings core.log core.progress core.built core.agenda
    (λ h e legal may. c.legal_histories.ensures.more core.settings r h e legal may)
    (λ e stood. c.rounds_stand.ensures.grows core.ask core.log.history e core.progress core.built stood) c.args.seat core.caught_up c.self.invariant key
    (c.in_ok-give_back.ensures.claimed.0 refl) c.begin_anew.new.self
    (λ agenda. c.agenda_laws.ensures.returned core.settings r core.log.history core.agenda c.begin_anew.new.self c.args.seat key agenda
    c.begin_anew.ensures.kept c.begin_anew.ensures.first_need c.begin_anew.ensures.first_hint))

pub returns-clause-ok : goal.returns-clause-ok
returns-clause-ok c =
    let core = c.self.inside in
    ap (λ (log : Log). record { ask = core.ask; settings = core.settings; history = log.history; caught_up = core.caught_up; progress = core.progress })
    c.in_ok-give_back.ensures.ok
    ∙ ap (λ (s : State). then_by s c.args.seat (give_back c.args.key.now) s.caught_up) c.self.view_is
