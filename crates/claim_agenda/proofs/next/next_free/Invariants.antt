use Rattle.claim_agenda.specs.Agendas.{IsQueue}
use Rattle.claim_rules.specs.Claims.{is_free}
use Rattle.claim_agenda.proofs.next.next_free.Given as goal

abbrev pub invariant-loop-place : goal.invariant-loop-place
invariant-loop-place l = IsQueue (is_free l.retries l.log.history) l.keys l.place
