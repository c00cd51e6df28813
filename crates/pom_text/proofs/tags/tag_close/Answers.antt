use Rattle.std.proofs.Common.{sym, subst}
use Rattle.pom_text.specs.Scans.{Faults}
use Rattle.pom_text.proofs.TagFacts.{tag_breaks, slash_breaks}
use Rattle.pom_text.proofs.tags.tag_close.Goals as goal

pub returns-then-not-is_at-clause-err : goal.returns-then-not-is_at-clause-err
returns-then-not-is_at-clause-err c = λ e name place s like.
    subst (Faults e c.args.bytes.now s c.args.at) (sym c.bad_text.ensures)
    (tag_breaks e c.args.bytes.now s name place c.args.at like c.requires.no_space
    (c.is_at.ensures.other c.if-is_at.false) (c.is_at-2.ensures.other c.if-not-is_at.true))

pub returns-then-not-is_at-2-clause-err : goal.returns-then-not-is_at-2-clause-err
returns-then-not-is_at-2-clause-err c = λ e name place s like.
    subst (Faults e c.args.bytes.now s c.args.at) (sym c.bad_text-then-not-is_at-2.ensures)
    (slash_breaks e c.args.bytes.now s name place c.args.at like (c.is_at-2.ensures.within c.if-not-is_at.false)
    (c.is_at-2.ensures.is_it c.if-not-is_at.false) (c.is_at-3.ensures.other c.if-not-is_at-2.true))
