use Rattle.std.proofs.Common.{inr, sym, subst}
use Rattle.pom_grammar.specs.Machine.{opened}
use Rattle.pom_text.specs.Scans.{Faults}
use Rattle.pom_text.specs.Views.{open_view}
use Rattle.pom_text.proofs.MarkupFacts.{opened_breaks}
use Rattle.pom_text.proofs.markup.markup.Goals as goal

pub returns-clause-err : goal.returns-clause-err
returns-clause-err c =
    inr (subst (Faults c.args.encoding c.args.bytes.now (opened (open_view c.args.stack)) c.args.at)
    (sym c.bad_text.ensures)
    (opened_breaks c.args.encoding c.args.bytes.now (open_view c.args.stack) c.args.at
    (c.is_name_at.ensures.other c.if-is_name_at.false) (c.is_at-2.ensures.other c.if-is_at-2.false)
    (c.is_at-3.ensures.other c.if-is_at-3.false) (c.is_at.ensures.other c.if-is_at.false)))
