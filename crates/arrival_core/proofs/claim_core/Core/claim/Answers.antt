use Rattle.std.proofs.Common.{◌≡◌, true, sym, ◌∙◌, ap, subst}
use Rattle.arrival_core.proofs.Keeping.{kept_after, kept_moved, may_note}
use Rattle.arrival_core.specs.Cores.{State, after_claim, log_after}
use Rattle.arrival_core.specs.Kept.{IsKept}
use Rattle.arrival_core.specs.Resolving.{resolver_of}
use Rattle.claim_agenda.specs.Agendas.{IsAgenda}
use Rattle.claim_log.specs.Logs.{Log}
use Rattle.claim_rules.specs.Claims.{IsAnswer, claim_of}
use Rattle.claim_rules.specs.Histories.{any_in_flight, known_in}
use Rattle.arrival_core.proofs.claim_core.Core.claim.Goals as goal

pub next_claim-requires-clause-needs : goal.next_claim-requires-clause-needs
next_claim-requires-clause-needs c =
    (c.self.invariant.agenda (ap (λ (s : State). s.caught_up) c.self.view_is ∙ c.requires)).need_queue

pub next_claim-requires-clause-hints : goal.next_claim-requires-clause-hints
next_claim-requires-clause-hints c =
    (c.self.invariant.agenda (ap (λ (s : State). s.caught_up) c.self.view_is ∙ c.requires)).hint_queue

pub next_claim-requires-clause-some : goal.next_claim-requires-clause-some
next_claim-requires-clause-some c =
    let core = c.self.inside in
    c.agenda_laws.ensures.some core.settings (resolver_of core.ask) core.log.history core.agenda (c.rounds_lawful.ensures core.ask)
    (c.self.invariant.agenda (ap (λ (s : State). s.caught_up) c.self.view_is ∙ c.requires))

pub next_claim-requires-clause-unknown : goal.next_claim-requires-clause-unknown
next_claim-requires-clause-unknown c =
    let core = c.self.inside in
    c.agenda_laws.ensures.unknown core.settings (resolver_of core.ask) core.log.history core.agenda (c.rounds_lawful.ensures core.ask)
    (c.self.invariant.agenda (ap (λ (s : State). s.caught_up) c.self.view_is ∙ c.requires))

pub note-requires : goal.note-requires
note-requires c =
    let core = c.self.inside in
    let h = core.log.history in
    may_note core.ask core.settings core.log c.self.invariant.repos c.self.invariant.log_repos
    (λ one. c.keys_listed.ensures.needs core.ask (known_in h) one) (λ one. c.keys_listed.ensures.hints core.settings core.ask (known_in h) one)
    (λ key is. c.agenda_laws.ensures.claimable core.settings (resolver_of core.ask) h key is) c.in_ok-answer.answer
    (sym (c.in_ok-answer.ensures.answer
    ∙ c.agenda_laws.ensures.answer core.settings (resolver_of core.ask) h core.agenda
    (c.self.invariant.agenda (ap (λ (s : State). s.caught_up) c.self.view_is ∙ c.requires))))

pub invariant_of-self : goal.invariant_of-self
invariant_of-self c =
    let core = c.self.inside in
    kept_moved core.ask core.settings core.log core.progress core.built core.agenda core.caught_up c.next_claim.new.agenda c.self.invariant
    (c.agenda_laws.ensures.moved core.settings (resolver_of core.ask) core.log.history core.agenda c.next_claim.new.agenda
    (c.self.invariant.agenda (ap (λ (s : State). s.caught_up) c.self.view_is ∙ c.requires)) c.next_claim.ensures.kept
    c.next_claim.ensures.need_queue c.next_claim.ensures.hint_queue)

pub invariant_of-self-in_err-note : goal.invariant_of-self-in_err-note
invariant_of-self-in_err-note c =
    let core = c.self.inside in
    let r = resolver_of core.ask in
    let h = core.log.history in
    let up : core.caught_up ≡ true = ap (λ (s : State). s.caught_up) c.self.view_is ∙ c.requires in
    let agenda : IsAgenda core.settings r h core.agenda = c.self.invariant.agenda up in
    let moved : IsAgenda core.settings r h c.next_claim.new.agenda =
    c.agenda_laws.ensures.moved core.settings r h core.agenda c.next_claim.new.agenda agenda c.next_claim.ensures.kept
    c.next_claim.ensures.need_queue c.next_claim.ensures.hint_queue in
    subst (λ (log : Log). IsKept core.ask core.settings log core.progress core.built c.next_claim.new.agenda core.caught_up) (sym c.in_err-note.ensures.err)
    (kept_moved core.ask core.settings core.log core.progress core.built core.agenda core.caught_up c.next_claim.new.agenda c.self.invariant moved)

pub invariant_of-self-2 : goal.invariant_of-self-2
invariant_of-self-2 c =
    let core = c.self.inside in
    let r = resolver_of core.ask in
    let h = core.log.history in
    let up : core.caught_up ≡ true = ap (λ (s : State). s.caught_up) c.self.view_is ∙ c.requires in
    let agenda : IsAgenda core.settings r h core.agenda = c.self.invariant.agenda up in
    let moved : IsAgenda core.settings r h c.next_claim.new.agenda =
    c.agenda_laws.ensures.moved core.settings r h core.agenda c.next_claim.new.agenda agenda c.next_claim.ensures.kept
    c.next_claim.ensures.need_queue c.next_claim.ensures.hint_queue in
    let answered : c.in_ok-answer.answer ≡ claim_of core.settings r h =
    c.in_ok-answer.ensures.answer ∙ c.agenda_laws.ensures.answer core.settings r h core.agenda agenda in
    let kept : IsKept core.ask core.settings core.log core.progress core.built core.agenda true =
    subst (λ b. IsKept core.ask core.settings core.log core.progress core.built core.agenda b) up c.self.invariant in
    let after : IsKept core.ask core.settings (log_after core.log c.args.seat c.in_ok-answer.answer) core.progress core.built c.next_claim.new.agenda true =
    kept_after core.ask core.settings core.log core.progress core.built core.agenda
    (λ h e legal may. c.legal_histories.ensures.more core.settings r h e legal may)
    (λ e stood. c.rounds_stand.ensures.grows core.ask core.log.history e core.progress core.built stood) c.args.seat kept c.next_claim.new.agenda moved
    (λ key. c.agenda_laws.ensures.claimed core.settings r h c.next_claim.new.agenda c.args.seat key moved) c.in_ok-answer.answer (sym answered) in
    subst (λ b. IsKept core.ask core.settings c.note.new.log core.progress core.built c.next_claim.new.agenda b) (sym up)
    (subst (λ (log : Log). IsKept core.ask core.settings log core.progress core.built c.next_claim.new.agenda true) (sym c.in_ok-note.ensures.ok) after)

pub returns-clause-answer : goal.returns-clause-answer
returns-clause-answer c =
    let core = c.self.inside in
    let r = resolver_of core.ask in
    let h = core.log.history in
    let up : core.caught_up ≡ true = ap (λ (s : State). s.caught_up) c.self.view_is ∙ c.requires in
    let agenda : IsAgenda core.settings r h core.agenda = c.self.invariant.agenda up in
    let answered : c.in_ok-answer.answer ≡ claim_of core.settings r h =
    c.in_ok-answer.ensures.answer ∙ c.agenda_laws.ensures.answer core.settings r h core.agenda agenda in
    answered ∙ ap (λ (s : State). claim_of s.settings (resolver_of s.ask) s.history) c.self.view_is

pub returns-clause-says : goal.returns-clause-says
returns-clause-says c =
    let core = c.self.inside in
    let r = resolver_of core.ask in
    let h = core.log.history in
    let up : core.caught_up ≡ true = ap (λ (s : State). s.caught_up) c.self.view_is ∙ c.requires in
    let agenda : IsAgenda core.settings r h core.agenda = c.self.invariant.agenda up in
    let answered : c.in_ok-answer.answer ≡ claim_of core.settings r h =
    c.in_ok-answer.ensures.answer ∙ c.agenda_laws.ensures.answer core.settings r h core.agenda agenda in
    subst (λ (s : State). IsAnswer s.settings (resolver_of s.ask) s.history c.in_ok-answer.answer) c.self.view_is
    (subst (λ answer. IsAnswer core.settings r h answer) (sym answered) (c.claim_answers.ensures.says core.settings r h))

pub returns-clause-flying : goal.returns-clause-flying
returns-clause-flying c none =
    let core = c.self.inside in
    let r = resolver_of core.ask in
    let h = core.log.history in
    let up : core.caught_up ≡ true = ap (λ (s : State). s.caught_up) c.self.view_is ∙ c.requires in
    let agenda : IsAgenda core.settings r h core.agenda = c.self.invariant.agenda up in
    let answered : c.in_ok-answer.answer ≡ claim_of core.settings r h =
    c.in_ok-answer.ensures.answer ∙ c.agenda_laws.ensures.answer core.settings r h core.agenda agenda in
    ap (λ (s : State). any_in_flight s.history) (sym c.self.view_is)
    ∙ c.claim_answers.ensures.flying core.settings r h (c.rounds_lawful.ensures core.ask) (sym answered ∙ none)

pub returns-clause-state : goal.returns-clause-state
returns-clause-state c =
    let core = c.self.inside in
    ap (λ (log : Log). record { ask = core.ask; settings = core.settings; history = log.history; caught_up = core.caught_up; progress = core.progress })
    c.in_ok-note.ensures.ok
    ∙ ap (λ (s : State). after_claim s c.args.seat c.in_ok-answer.answer) c.self.view_is
