use Rattle.std.proofs.Common.{◌∙◌, ◌++◌, ap, codes, map, sym}
use Rattle.case_words.specs.Names.{rule_word}
use Rattle.case_words.proofs.Joins.{pieces-joined}
use Rattle.case_words.proofs.names.set_of.Goals as goal

pub returns : goal.returns
returns c =
    ap
    (λ inside. codes "{" ++ (inside ++ codes "}"))
    (pieces-joined 44 c.in-Some.inside.now (map rule_word c.in_ok-rules_of.field-0) c.as_slice.result.now c.in_ok-words.words.items c.in_ok-rules_of.ensures c.as_slice.ensures.value c.in_ok-words.ensures)
    ∙ sym c.in-Some.ensures
