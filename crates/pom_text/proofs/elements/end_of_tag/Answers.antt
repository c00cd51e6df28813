use Rattle.std.proofs.Common.{[], sym, subst, ◌∙◌}
use Rattle.pom_grammar.specs.Machine.{in_end}
use Rattle.pom_text.specs.Scans.{Faults}
use Rattle.pom_text.proofs.TagFacts.{end_goes, end_breaks}
use Rattle.pom_text.proofs.elements.end_of_tag.Goals as goal

pub returns-then-not-is_at-clause-err : goal.returns-then-not-is_at-clause-err
returns-then-not-is_at-clause-err c = λ e frame outer.
    subst (Faults e c.args.bytes.now (in_end [] c.args.raw.now frame outer) c.args.at) (sym c.bad_text.ensures)
    (c.in-Ok.ensures.ok e frame outer
    ∙ end_breaks e c.args.bytes.now c.args.raw.now frame outer c.in-Ok.end c.space_end-end.result
    c.space_end-end.ensures.forth c.space_end-end.ensures.within c.space_end-end.ensures.spaces
    c.space_end-end.ensures.ends (c.is_at.ensures.other c.if-not-is_at.true))

pub returns-clause-ok : goal.returns-clause-ok
returns-clause-ok c = λ e frame outer.
    c.in-Ok.ensures.ok e frame outer
    ∙ end_goes e c.args.bytes.now c.args.raw.now frame outer c.in-Ok.end c.space_end-end.result
    c.space_end-end.ensures.forth (c.is_at.ensures.within c.if-not-is_at.false) c.space_end-end.ensures.spaces
    (c.is_at.ensures.is_it c.if-not-is_at.false)
