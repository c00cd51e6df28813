use Rattle.std.proofs.Common.{sym, subst}
use Rattle.pom_grammar.specs.declared.encoding.Tail.TheVariants.{Whole}
use Rattle.pom_grammar.specs.Machine.{in_segment, in_label}
use Rattle.pom_text.specs.Scans.{Faults}
use Rattle.pom_text.proofs.TagFacts.{equals_goes, equals_breaks}
use Rattle.pom_text.proofs.tags.equals_end.Goals as goal

pub returns-then-is_at-clause-ok : goal.returns-then-is_at-clause-ok
returns-then-is_at-clause-ok c = λ e name seen place.
    equals_goes e c.args.bytes.now c.names_have_no_space.ensures.stands
    name seen place c.args.at c.space_end-sign.result c.space_end.result
    c.space_end-sign.ensures.forth (c.is_at.ensures.within c.if-is_at.true) c.space_end-sign.ensures.spaces
    (c.is_at.ensures.is_it c.if-is_at.true) c.space_end.ensures.forth c.space_end.ensures.within
    c.space_end.ensures.spaces

pub returns-else-is_at-clause-err : goal.returns-else-is_at-clause-err
returns-else-is_at-clause-err c = λ e name seen place.
    subst (Faults e c.args.bytes.now (in_segment (in_label name) place seen Whole) c.args.at) (sym c.bad_text.ensures)
    (equals_breaks e c.args.bytes.now c.names_have_no_space.ensures.stands
    name seen place c.args.at c.space_end-sign.result c.space_end-sign.ensures.forth
    c.space_end-sign.ensures.within c.space_end-sign.ensures.spaces c.requires.after_name
    c.space_end-sign.ensures.ends (c.is_at.ensures.other c.if-is_at.false))
