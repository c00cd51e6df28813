use Rattle.pom_grammar.proofs.OneAnswer.{read_or_short}
use Rattle.pom_grammar.proofs.laws.documents_are_read.Goals as goal

pub returns : goal.returns
returns c = read_or_short
