use Rattle.pom_grammar.proofs.Lives.{high_quiet}
use Rattle.pom_grammar.proofs.byte_laws.ascii_ends_runs.Goals as goal

pub returns : goal.returns
returns c = high_quiet
