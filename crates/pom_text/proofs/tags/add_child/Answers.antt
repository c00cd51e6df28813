use Rattle.pom_text.proofs.TagFacts.{child_nests}
use Rattle.pom_text.proofs.tags.add_child.Goals as goal

pub returns-in_ok-push-in-Some-2 : goal.returns-in_ok-push-in-Some-2
returns-in_ok-push-in-Some-2 c =
    child_nests c.args.stack.root c.args.stack.frames c.pop.new.self c.push-in-Some.new.self c.in-Some.parent
    c.push.new.self c.args.tree c.in-Some.ensures c.in_ok-push-in-Some.ensures.ok c.in_ok-push-in-Some-2.ensures.ok
