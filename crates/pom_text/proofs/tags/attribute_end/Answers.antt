use Rattle.std.proofs.Common.{[], ◌∙◌, arith, slice_range}
use Rattle.std.proofs.lemmas.Result.{IfOk-weaker, IfErr-weaker}
use Rattle.pom_grammar.specs.Characters.{onto}
use Rattle.pom_grammar.specs.Machine.{in_label}
use Rattle.pom_text.proofs.TagFacts.{label_begins}
use Rattle.pom_text.proofs.tags.attribute_end.Goals as goal

pub returns-in-Err-clause-err : goal.returns-in-Err-clause-err
returns-in-Err-clause-err c = λ name place.
    label_begins c.args.encoding c.args.bytes.now name place c.args.at c.requires.within c.requires.is_start
    ∙ c.in-Err.ensures.err (in_label name) tt place []

pub returns-in-Err-equals_end-clause-err : goal.returns-in-Err-equals_end-clause-err
returns-in-Err-equals_end-clause-err c = λ name place.
    label_begins c.args.encoding c.args.bytes.now name place c.args.at c.requires.within c.requires.is_start
    ∙ (c.in-Ok.ensures.runs (in_label name) tt).goes place []
    ∙ c.in-Err-equals_end.ensures.err c.args.encoding name
    (onto (slice_range c.args.bytes.now c.args.at c.in-Ok.end) []) place

pub returns-clause-forth : goal.returns-clause-forth
returns-clause-forth c =
    IfOk-weaker c.quoted_end.result _ _
    (λ end further.
    let one = (c.in-Ok.ensures.runs (in_label []) tt).forth in
    omega (arith, one, c.in-Ok-equals_end.ensures.forth, further)) c.quoted_end.ensures.forth

pub returns-clause-ok : goal.returns-clause-ok
returns-clause-ok c =
    IfOk-weaker c.quoted_end.result _ _
    (λ end on name place.
    label_begins c.args.encoding c.args.bytes.now name place c.args.at c.requires.within c.requires.is_start
    ∙ (c.in-Ok.ensures.runs (in_label name) tt).goes place []
    ∙ c.in-Ok-equals_end.ensures.ok c.args.encoding name
    (onto (slice_range c.args.bytes.now c.args.at c.in-Ok.end) []) place
    ∙ on name place) c.quoted_end.ensures.ok

pub returns-clause-err : goal.returns-clause-err
returns-clause-err c =
    IfErr-weaker c.quoted_end.result _ _
    (λ fault breaks name place.
    label_begins c.args.encoding c.args.bytes.now name place c.args.at c.requires.within c.requires.is_start
    ∙ (c.in-Ok.ensures.runs (in_label name) tt).goes place []
    ∙ c.in-Ok-equals_end.ensures.ok c.args.encoding name
    (onto (slice_range c.args.bytes.now c.args.at c.in-Ok.end) []) place
    ∙ breaks name place c.in-Ok-equals_end.ensures.no_space) c.quoted_end.ensures.err
