use Rattle.std.proofs.Common.{◌+◌, inr, sym, ◌∙◌, ap, drop}
use Rattle.pom_grammar.specs.Machine.{outside, bang, back}
use Rattle.pom_grammar.specs.Verdicts.{verdict}
use Rattle.pom_text.specs.Views.{frame_view, nest}
use Rattle.pom_text.proofs.TagFacts.{nest_one}
use Rattle.pom_text.proofs.MarkupFacts.{bracket_goes}
use Rattle.pom_text.proofs.markup.cdata.Goals as goal

pub returns-in-Err-clause-err : goal.returns-in-Err-clause-err
returns-in-Err-clause-err c =
    let e = c.args.encoding in
    let outer = nest (outside c.args.stack.root) c.pop.new.self in
    inr (ap (λ p. verdict e (bang p) (drop c.args.at c.args.bytes.now) c.args.at)
    (ap (nest (outside c.args.stack.root)) c.in-Some.ensures
    ∙ nest_one (outside c.args.stack.root) c.pop.new.self c.in-Some.frame)
    ∙ bracket_goes e c.args.bytes.now
    (frame_view c.in-Some.frame) outer c.args.at c.requires.within c.requires.is_bracket
    ∙ c.in-Err.ensures.err e (frame_view c.in-Some.frame) outer)

pub returns-in-Err-cdata_end-clause-err : goal.returns-in-Err-cdata_end-clause-err
returns-in-Err-cdata_end-clause-err c =
    let e = c.args.encoding in
    let outer = nest (outside c.args.stack.root) c.pop.new.self in
    inr (ap (λ p. verdict e (bang p) (drop c.args.at c.args.bytes.now) c.args.at)
    (ap (nest (outside c.args.stack.root)) c.in-Some.ensures
    ∙ nest_one (outside c.args.stack.root) c.pop.new.self c.in-Some.frame)
    ∙ bracket_goes e c.args.bytes.now
    (frame_view c.in-Some.frame) outer c.args.at c.requires.within c.requires.is_bracket
    ∙ c.in-Ok.ensures.ok e (frame_view c.in-Some.frame) outer
    ∙ c.in-Err-cdata_end.ensures.err (frame_view c.in-Some.frame) outer)

pub returns-in-Ok-add_cdata-clause-ok : goal.returns-in-Ok-add_cdata-clause-ok
returns-in-Ok-add_cdata-clause-ok c =
    let e = c.args.encoding in
    let outer = nest (outside c.args.stack.root) c.pop.new.self in
    ap (λ p. verdict e (bang p) (drop c.args.at c.args.bytes.now) c.args.at)
    (ap (nest (outside c.args.stack.root)) c.in-Some.ensures
    ∙ nest_one (outside c.args.stack.root) c.pop.new.self c.in-Some.frame)
    ∙ bracket_goes e c.args.bytes.now
    (frame_view c.in-Some.frame) outer c.args.at c.requires.within c.requires.is_bracket
    ∙ c.in-Ok.ensures.ok e (frame_view c.in-Some.frame) outer
    ∙ c.in-Ok-cdata_end.ensures.ok (frame_view c.in-Some.frame) outer
    ∙ ap (λ p. verdict e (back p) (drop (c.in-Ok-cdata_end.end + 3) c.args.bytes.now) (c.in-Ok-cdata_end.end + 3))
    (sym c.in-Ok-add_cdata.ensures)
