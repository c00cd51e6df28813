use Rattle.std.proofs.Common.{[], sym, ◌∙◌, arith}
use Rattle.pom_text.proofs.TagFacts.{quote_of, value_goes}
use Rattle.pom_text.proofs.tags.quoted_end.Goals as goal

pub returns-in-Ok-clause-forth : goal.returns-in-Ok-clause-forth
returns-in-Ok-clause-forth c =
    let q = quote_of c.args.encoding c.args.bytes.now _ (c.is_quote.ensures.yes c.if-is_quote.true) in
    let forth = (c.in-Ok.ensures.runs q.0 [] q.1).forth in
    omega (arith, forth)

pub returns-in-Ok-clause-ok : goal.returns-in-Ok-clause-ok
returns-in-Ok-clause-ok c = λ name place.
    let q = quote_of c.args.encoding c.args.bytes.now _ (c.is_quote.ensures.yes c.if-is_quote.true) in
    value_goes c.args.encoding c.args.bytes.now name place q.0 c.args.at c.in-Ok.end c.if-at-bytes.true
    c.in-Ok.ensures.within (sym q.1) (c.in-Ok.ensures.is_quote ∙ sym q.1) (c.in-Ok.ensures.runs q.0 name q.1)
