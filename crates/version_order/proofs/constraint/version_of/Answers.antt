use Rattle.version_order.proofs.Plain.{plain_text}
use Rattle.version_order.proofs.constraint.version_of.Goals as goal

pub unreachable-requires : goal.unreachable-requires
unreachable-requires c = c.in-Err.ensures.cases.0 (plain_text c.args.bytes.now c.requires)
