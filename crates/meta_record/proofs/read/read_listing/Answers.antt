use Rattle.meta_record.proofs.ReadingLemmas.{told, tree_answered}
use Rattle.meta_record.proofs.read.read_listing.Goals as goal

pub returns-clause-refused : goal.returns-clause-refused
returns-clause-refused g c =
    told c.args.bytes.now c.in_ok-tree.tree c.listing_of.result c.in_ok-tree.ensures.says c.listing_of.ensures

pub returns-clause-answer : goal.returns-clause-answer
returns-clause-answer g c =
    tree_answered c.args.bytes.now c.in_ok-tree.tree c.listing_of.result c.in_ok-tree.ensures.read c.listing_of.ensures
