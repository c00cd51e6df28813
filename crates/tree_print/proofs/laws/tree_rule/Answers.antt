use Rattle.tree_print.proofs.Forests.{is_tree}
use Rattle.tree_print.proofs.laws.tree_rule.Goals as goal

pub returns : goal.returns
returns c = is_tree
