use Rattle.std.proofs.Common.{◌≡◌, true, [], inr, sym, ◌∙◌, ap, arith, drop, slice_range}
use Rattle.pom_grammar.specs.Machine.{in_name, may_open}
use Rattle.pom_grammar.specs.Verdicts.{verdict}
use Rattle.pom_text.specs.Views.{open_view, tag_state}
use Rattle.pom_text.proofs.TagFacts.{name_begins, start_goes, start_breaks, tag_then}
use Rattle.pom_text.proofs.elements.start_tag.Goals as goal

pub returns-in-Err-clause-err : goal.returns-in-Err-clause-err
returns-in-Err-clause-err c =
    let free : may_open (open_view c.args.stack) ≡ true = sym c.may_open.ensures ∙ c.if-not-may_open.false in
    inr (name_begins c.args.encoding c.args.bytes.now
    (open_view c.args.stack) c.args.at c.requires.within c.requires.is_start free
    ∙ c.in-Err.ensures.err in_name tt (open_view c.args.stack) [])

pub returns-in-Err-tag_end-clause-err : goal.returns-in-Err-tag_end-clause-err
returns-in-Err-tag_end-clause-err c =
    let free : may_open (open_view c.args.stack) ≡ true = sym c.may_open.ensures ∙ c.if-not-may_open.false in
    inr (start_breaks c.args.encoding c.args.bytes.now
    (open_view c.args.stack) c.args.at c.in-Ok.end c.in-Err-tag_end.fault c.requires.within c.requires.is_start free
    (c.in-Ok.ensures.runs in_name tt) c.in-Ok.ensures.stops
    (λ name. c.in-Err-tag_end.ensures.err name (open_view c.args.stack)))

pub open_element-requires : goal.open_element-requires
open_element-requires c = (c.in-Ok.ensures.runs in_name tt).is_text

pub returns-in-Ok-open_element-clause-forth : goal.returns-in-Ok-open_element-clause-forth
returns-in-Ok-open_element-clause-forth c = omega (arith, c.in-Ok.ensures.forth, c.in-Ok-tag_end.ensures.forth)

pub returns-in-Ok-open_element-clause-ok : goal.returns-in-Ok-open_element-clause-ok
returns-in-Ok-open_element-clause-ok c =
    let e = c.args.encoding in
    let place = open_view c.args.stack in
    let name = slice_range c.args.bytes.now c.args.at c.in-Ok.end in
    let free : may_open (open_view c.args.stack) ≡ true = sym c.may_open.ensures ∙ c.if-not-may_open.false in
    start_goes e c.args.bytes.now place c.args.at c.in-Ok.end c.in-Ok-tag_end.tag.at
    (λ n. tag_state e c.in-Ok-tag_end.tag n place) c.requires.within c.requires.is_start free
    (c.in-Ok.ensures.runs in_name tt) c.in-Ok.ensures.stops (λ n. c.in-Ok-tag_end.ensures.ok n place)
    ∙ ap (λ s. verdict e s (drop c.in-Ok-tag_end.tag.at c.args.bytes.now) c.in-Ok-tag_end.tag.at)
    (tag_then e c.in-Ok-tag_end.tag name place
    (open_view c.in-Ok-open_element.stack) c.in-Ok-open_element.ensures.empty c.in-Ok-open_element.ensures.full)
