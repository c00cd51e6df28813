use Rattle.std.proofs.Common.{◌∙◌, ap}
use Rattle.pom_grammar.specs.Machine.{outside, within}
use Rattle.pom_text.specs.Views.{nest}
use Rattle.pom_text.proofs.TagFacts.{nest_one, fresh_is}
use Rattle.pom_text.proofs.elements.push_element.Goals as goal

pub returns : goal.returns
returns c =
    ap (nest (outside c.args.stack.root)) c.in_ok-push.ensures.ok
    ∙ nest_one (outside c.args.stack.root) c.args.stack.frames _
    ∙ ap (λ f. within f (nest (outside c.args.stack.root) c.args.stack.frames))
    (fresh_is c.args.encoding c.args.name.now c.in_ok-raw.raw c.in_ok-label.label c.new.result c.new-2.result
    c.in_ok-raw.ensures c.in_ok-label.ensures c.new.ensures c.new-2.ensures)
