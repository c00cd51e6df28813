use Rattle.std.proofs.Common.{sym}
use Rattle.pom_text.proofs.TableFacts.{no_entity}
use Rattle.pom_text.proofs.tables.entity.Goals as goal

pub returns-in-Err : goal.returns-in-Err
returns-in-Err c = sym (no_entity c.args.name.now c.in-Err.ensures.cases.0)
