use Rattle.std.proofs.Common.{◌≡◌, None, fold, take}
use Rattle.claim_log.specs.declared.event.Event.{Event}
use Rattle.fetch_pool.specs.Whys.{why_by}
use Rattle.fetch_pool.proofs.whys.last_why.Given as goal

abbrev pub invariant-loop-event : goal.invariant-loop-event
invariant-loop-event l = l.why ≡ fold (λ why (e : Event). why_by l.key why e.kind) None (take l.event-index l.events)
