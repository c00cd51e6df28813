use Rattle.std.proofs.Common.{sym, ◌∙◌, drop}
use Rattle.std.proofs.lemmas.Bool.{false≢true}
use Rattle.pom_text.proofs.MarkupFacts.{doctype_within, doctype_top}
use Rattle.pom_text.proofs.markup.is_doctype.Goals as goal

pub returns-then-not-is_empty : goal.returns-then-not-is_empty
returns-then-not-is_empty c =
    sym (doctype_within c.args.stack.now.root c.args.stack.now.frames (drop c.args.at c.args.bytes.now)
    (λ f. false≢true (sym c.if-not-is_empty.true ∙ c.is_empty.ensures.1 f)))

pub returns-in-Some : goal.returns-in-Some
returns-in-Some c =
    sym (doctype_top c.args.stack.now.root _ c.args.stack.now.frames (drop c.args.at c.args.bytes.now)
    (c.is_empty.ensures.0 c.if-not-is_empty.false) c.in-Some.is)

pub returns-in-None : goal.returns-in-None
returns-in-None c = c.stands.ensures
    ∙ sym (doctype_top c.args.stack.now.root _ c.args.stack.now.frames (drop c.args.at c.args.bytes.now)
    (c.is_empty.ensures.0 c.if-not-is_empty.false) c.in-None.is)
