use Rattle.std.proofs.Common.{◌≡◌, false, sym, ap, ◌∙◌, subst, arith}
use Rattle.http_link.specs.Hearing.{ended_of}
use Rattle.http_link.specs.Openings.{IsTail}
use Rattle.http_link.specs.Ends.{is_fault}
use Rattle.http_link.proofs.PageFacts.{tail_of, fault_of, fault_is, no_fault}
use Rattle.http_link.proofs.pages.opened.Goals as goal

pub returns-then-is_fault : goal.returns-then-is_fault
returns-then-is_fault c = λ told connection limit most reply h some.
    let is = fault_is c.args.pending.items (ended_of c.args.step) (ap (λ p. is_fault p (ended_of c.args.step))
    (sym c.as_slice.ensures.value) ∙ ap (is_fault c.as_slice.result.now) (sym c.ended-ended.ensures)
    ∙ sym c.is_fault.ensures ∙ c.if-is_fault.true) in
    fault_of c.args.step told connection c.args.reader limit most reply c.args.pending.items h some is.0 is.1

pub returns-else-is_fault : goal.returns-else-is_fault
returns-else-is_fault c = λ told connection limit most reply h some.
    let not_fault : is_fault c.args.pending.items c.ended-ended.result ≡ false = ap (λ p. is_fault p c.ended-ended.result)
    (sym c.as_slice.ensures.value) ∙ sym c.is_fault.ensures ∙ c.if-is_fault.false in (
      subst (IsTail told connection c.args.reader limit reply c.args.pending.items) (sym c.ended-ended.ensures)
          (tail_of c.args.step told connection c.args.reader limit most reply c.args.pending.items h some),
      omega (arith, h.few),
      no_fault c.args.pending.items c.ended-ended.result not_fault,
    )
