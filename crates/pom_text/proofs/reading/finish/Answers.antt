use Rattle.std.proofs.Common.{sym, ◌∙◌, ap, Err}
use Rattle.std.proofs.lemmas.Bool.{false≢true}
use Rattle.pom_text.proofs.TagFacts.{inner_end}
use Rattle.pom_text.proofs.reading.finish.Goals as goal

pub returns-then-not-is_empty-clause-err : goal.returns-then-not-is_empty-clause-err
returns-then-not-is_empty-clause-err c =
    inner_end c.args.stack.root c.args.stack.frames c.args.end
    (λ f. false≢true (sym c.if-not-is_empty.true ∙ c.is_empty.ensures.1 f))
    ∙ ap Err (sym c.bad_text.ensures)
