use Rattle.std.proofs.Common.{arith, [], ap, refl, ◌∙◌, length}
use Rattle.std.proofs.lemmas.Slice.{between_to_end}
use Rattle.pom_grammar.specs.declared.encoding.Tail.TheVariants.{Whole}
use Rattle.pom_grammar.specs.Encodings.{tails}
use Rattle.pom_text.proofs.TextFacts.{local_text}
use Rattle.pom_text.proofs.texts.local_name.Goals as goal

pub push_plain-requires : goal.push_plain-requires
push_plain-requires c =
    ap (tails c.args.encoding Whole)
    (between_to_end c.args.name.now c.local_start-start.result (length c.args.name.now) (omega arith)
    ∙ c.local_start-start.ensures.value)
    ∙ local_text c.args.encoding c.args.name.now [] c.args.name.now c.requires refl
