use Rattle.std.proofs.Common.{[], ◌+◌, inr, sym, ◌∙◌, ap, drop}
use Rattle.pom_grammar.specs.Machine.{outside, opened, in_end, back}
use Rattle.pom_grammar.specs.Verdicts.{verdict}
use Rattle.pom_text.specs.Views.{frame_view, nest}
use Rattle.pom_text.proofs.TagFacts.{nest_one, slash_goes}
use Rattle.pom_text.proofs.elements.end_tag.Goals as goal

pub returns-in-Err-clause-err : goal.returns-in-Err-clause-err
returns-in-Err-clause-err c =
    let e = c.args.encoding in
    let outer = nest (outside c.args.stack.root) c.pop.new.self in
    inr (ap (λ p. verdict e (opened p) (drop c.args.at c.args.bytes.now) c.args.at)
    (ap (nest (outside c.args.stack.root)) c.in-Some.ensures
    ∙ nest_one (outside c.args.stack.root) c.pop.new.self c.in-Some.frame)
    ∙ slash_goes e c.args.bytes.now (frame_view c.in-Some.frame) outer c.args.at c.requires.within c.requires.is_slash
    ∙ ap (λ n. verdict e (in_end [] n (frame_view c.in-Some.frame) outer) (drop (c.args.at + 1) c.args.bytes.now)
    (c.args.at + 1)) (sym c.as_slice.ensures)
    ∙ c.in-Err.ensures.err e (frame_view c.in-Some.frame) outer)

pub returns-in-Ok-close-clause-ok : goal.returns-in-Ok-close-clause-ok
returns-in-Ok-close-clause-ok c =
    let e = c.args.encoding in
    let outer = nest (outside c.args.stack.root) c.pop.new.self in
    ap (λ p. verdict e (opened p) (drop c.args.at c.args.bytes.now) c.args.at)
    (ap (nest (outside c.args.stack.root)) c.in-Some.ensures
    ∙ nest_one (outside c.args.stack.root) c.pop.new.self c.in-Some.frame)
    ∙ slash_goes e c.args.bytes.now (frame_view c.in-Some.frame) outer c.args.at c.requires.within c.requires.is_slash
    ∙ ap (λ n. verdict e (in_end [] n (frame_view c.in-Some.frame) outer) (drop (c.args.at + 1) c.args.bytes.now)
    (c.args.at + 1)) (sym c.as_slice.ensures)
    ∙ c.in-Ok.ensures.ok e (frame_view c.in-Some.frame) outer
    ∙ ap (λ p. verdict e (back p) (drop c.in-Ok.end c.args.bytes.now) c.in-Ok.end) (sym c.in-Ok-close.ensures)
