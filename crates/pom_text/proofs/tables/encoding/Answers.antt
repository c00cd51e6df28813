use Rattle.std.proofs.Common.{sym}
use Rattle.pom_text.proofs.TableFacts.{no_encoding}
use Rattle.pom_text.proofs.tables.encoding.Goals as goal

pub returns-in-Err : goal.returns-in-Err
returns-in-Err c = sym (no_encoding c.args.lowered.now c.in-Err.ensures.cases.0)
