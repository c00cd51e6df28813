use Rattle.std.proofs.Common.{sym}
use Rattle.version_order.proofs.Words.{no_qualifier}
use Rattle.version_order.proofs.qualifiers.find.Goals as goal

pub returns-in-Err : goal.returns-in-Err
returns-in-Err c = sym (no_qualifier c.args.word.now c.in-Err.ensures.cases.0)
