use Rattle.std.proofs.Common.{◌≡◌, ◌<◌, length, get_or, sym, ◌∙◌, ap}
use Rattle.pom_text.specs.Texts.{met}
use Rattle.pom_text.proofs.TableFacts.{named_found, named_none}
use Rattle.pom_text.proofs.references.named.Goals as goal

pub returns-then-not-is_at : goal.returns-then-not-is_at
returns-then-not-is_at c =
    let text = c.args.text.now in
    let len = c.semicolon-len.result in
    let other : len < length text → get_or text len 0 ≡ 59 → ⊥ = c.is_at.ensures.other c.if-not-is_at.true in
    sym (named_none text len c.semicolon-len.ensures.first other
    (λ here. c.semicolon-len.ensures.near here (other here)))

pub returns-in-Some : goal.returns-in-Some
returns-in-Some c =
    sym
    (named_found c.args.text.now c.semicolon-len.result
    (c.is_at.ensures.within c.if-not-is_at.false) c.semicolon-len.ensures.first
    (c.is_at.ensures.is_it c.if-not-is_at.false)
    ∙ ap (met c.semicolon-len.result) (sym c.entity.ensures ∙ c.in-Some.is))

pub returns-in-None : goal.returns-in-None
returns-in-None c =
    sym
    (named_found c.args.text.now c.semicolon-len.result
    (c.is_at.ensures.within c.if-not-is_at.false) c.semicolon-len.ensures.first
    (c.is_at.ensures.is_it c.if-not-is_at.false)
    ∙ ap (met c.semicolon-len.result) (sym c.entity.ensures ∙ c.in-None.is))
