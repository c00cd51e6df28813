use Rattle.reconcile_rules.proofs.Loops.{is_common}
use Rattle.reconcile_rules.proofs.relaxed.all_common.Goals as goal

pub returns : goal.returns
returns c = is_common c.common.ensures.empty c.args.asked.now c.in_ok-met.met (c.in_ok-met.ensures)
