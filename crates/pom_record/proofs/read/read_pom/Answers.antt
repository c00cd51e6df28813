use Rattle.pom_record.proofs.ReadingLemmas.{told, tree_answered}
use Rattle.pom_record.proofs.read.read_pom.Goals as goal

pub returns-clause-refused : goal.returns-clause-refused
returns-clause-refused g c =
    told c.args.bytes.now c.in_ok-tree.tree c.pom_of.result c.in_ok-tree.ensures.says c.pom_of.ensures

pub returns-clause-answer : goal.returns-clause-answer
returns-clause-answer g c =
    tree_answered c.args.bytes.now c.in_ok-tree.tree c.pom_of.result c.in_ok-tree.ensures.read c.pom_of.ensures
