use Rattle.std.proofs.Common.{sym, ◌∙◌, ap, subst, get_or}
use Rattle.pom_grammar.specs.Declarations.{next_found}
use Rattle.pom_text.specs.DeclarationViews.{IsNamed, named_view, quote_of}
use Rattle.pom_text.proofs.DeclaredFacts.{value_more}
use Rattle.pom_text.proofs.declaration.next_named.Goals as goal

pub returns-else-bytes-at-clause-view : goal.returns-else-bytes-at-clause-view
returns-else-bytes-at-clause-view c =
    let fits = subst (IsNamed c.args.at) c.in-Value.is c.requires.is_named in
    value_more c.args.bytes.now (quote_of c.in-Value.double) c.in-Value.start c.args.at fits c.requires.within
    (λ same. c.if-bytes-at.false (same ∙ sym c.quote_sign.ensures))
    ∙ ap (λ n. next_found (named_view c.args.bytes.now c.args.at n) (get_or c.args.bytes.now c.args.at 0))
    (sym c.in-Value.is)
