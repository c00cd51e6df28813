use Rattle.std.proofs.Common.{◌∙◌, sym, arith}
use Rattle.std.specs.Option.{option_copied}
use Rattle.reconcile_rules.specs.Relaxed.{is_after}
use Rattle.reconcile_rules.proofs.Loops.{stops, goes_on}
use Rattle.reconcile_rules.proofs.relaxed.common_after.Goals as goal

pub returns-in-None : goal.returns-in-None
returns-in-None c =
    let inv = c.loop-request.invariant in
    stops
    (is_after (option_copied c.args.dropped)) c.args.asked.now c.loop-request.request-index c.request-item.result c.loop-request.made
    (omega arith) c.request-item.is inv.0 (sym c.in-None.is ∙ c.in_ok-met_after.ensures)

pub loop-request-preserved : goal.loop-request-preserved
loop-request-preserved c =
    let inv = c.loop-request.invariant in
    goes_on
    (is_after (option_copied c.args.dropped)) c.args.asked.now c.loop-request.request-index c.request-item.result c.loop-request.made
    (omega arith) c.request-item.is inv.0 inv.1 c.in-Some.met (sym c.in-Some.is ∙ c.in_ok-met_after.ensures)
