use Rattle.std.proofs.Common.{arith, ◌≡◌, ◌++◌, ap, subst, sym, ◌∙◌, length, drop}
use Rattle.std.specs.Prelude.{OnOk}
use Rattle.std.proofs.lemmas.Slice.{between_to_end}
use Rattle.pom_grammar.specs.declared.encoding.Tail.TheVariants.{Whole}
use Rattle.pom_grammar.specs.Encodings.{tails, utf8_of}
use Rattle.pom_grammar.specs.Machine.{join}
use Rattle.pom_text.proofs.TextFacts.{plain_text, plain_skip}
use Rattle.pom_text.proofs.references.add_plain.Goals as goal

pub push_plain-requires : goal.push_plain-requires
push_plain-requires c =
    ap (tails c.args.encoding Whole)
    (between_to_end c.args.bytes.now c.space_end-start.result (length c.args.bytes.now) (omega arith))
    ∙ plain_text c.args.encoding c.args.bytes.now c.space_end-start.result c.space_end-start.ensures.spaces c.requires

pub returns-then-is_empty : goal.returns-then-is_empty
returns-then-is_empty c =
    let e = c.args.encoding in
    let none = c.is_empty.ensures.0 c.if-is_empty.true in
    let joined = ap (λ t. join t (utf8_of e c.args.bytes.now)) none
    ∙ plain_skip e c.args.bytes.now c.space_end-start.result c.space_end-start.ensures.within
    c.space_end-start.ensures.spaces c.space_end-start.ensures.ends in
    let made = ap (λ t. t ++ utf8_of e (drop c.space_end-start.result c.args.bytes.now)) none in
    let slice =
    ap (λ x. c.args.text.now ++ utf8_of e x)
    (between_to_end c.args.bytes.now c.space_end-start.result (length c.args.bytes.now) (omega arith)) in
    subst (λ x. OnOk c.push_plain.result (c.push_plain.new.text ≡ x)) (slice ∙ made ∙ sym joined) c.push_plain.ensures
