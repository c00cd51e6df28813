use Rattle.pom_grammar.proofs.OneAnswer.{one_tree}
use Rattle.pom_grammar.proofs.laws.one_tree.Goals as goal

pub returns : goal.returns
returns c = one_tree
