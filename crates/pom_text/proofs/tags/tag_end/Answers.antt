use Rattle.std.proofs.Common.{◌≡◌, inl, inr, ◌∙◌, ap, drop, arith}
use Rattle.std.proofs.lemmas.Bool.{cases_lt}
use Rattle.std.proofs.lemmas.Result.{IfOk-weaker, IfErr-weaker}
use Rattle.pom_grammar.specs.Machine.{in_tag, closed, spaced}
use Rattle.pom_grammar.specs.Verdicts.{verdict}
use Rattle.pom_text.proofs.TagFacts.{to_spaced, as_closed, as_spaced}
use Rattle.pom_text.proofs.tags.tag_end.Goals as goal

pub returns-in-Err-clause-err : goal.returns-in-Err-clause-err
returns-in-Err-clause-err c = λ name place.
    let begins = c.begins_attribute.ensures.yes c.loop-encoding-test.true in
    c.loop-encoding.invariant.5 name place
    ∙ to_spaced c.args.encoding c.args.bytes.now c.names_have_no_space.ensures.begins
    name place c.loop-encoding.i c.loop-encoding.next begins.0
    c.loop-encoding.invariant.2 c.loop-encoding.invariant.3
    ∙ c.in-Err.ensures.err name place

pub loop-encoding-preserved : goal.loop-encoding-preserved
loop-encoding-preserved c =
    let begins = c.begins_attribute.ensures.yes c.loop-encoding-test.true in (
      omega (arith, c.loop-encoding.invariant.0, begins.0, c.in-Ok.ensures.forth),
      c.space_end-next-in-loop-encoding.ensures.forth,
      c.space_end-next-in-loop-encoding.ensures.within,
      c.space_end-next-in-loop-encoding.ensures.spaces,
      c.space_end-next-in-loop-encoding.ensures.ends,
      λ name place.
          c.loop-encoding.invariant.5 name place
          ∙ to_spaced c.args.encoding c.args.bytes.now c.names_have_no_space.ensures.begins
          name place c.loop-encoding.i c.loop-encoding.next begins.0
          c.loop-encoding.invariant.2 c.loop-encoding.invariant.3
          ∙ c.in-Ok.ensures.ok name place,
    )

pub returns-clause-forth : goal.returns-clause-forth
returns-clause-forth c =
    IfOk-weaker c.tag_close.result _ _
    (λ tag further. omega (arith, c.loop-encoding.invariant.0, c.loop-encoding.invariant.1, further))
    c.tag_close.ensures.forth

pub returns-clause-ok : goal.returns-clause-ok
returns-clause-ok c =
    IfOk-weaker c.tag_close.result _ _
    (λ tag on name place.
    c.loop-encoding.invariant.5 name place
    ∙ elim (cases_lt c.loop-encoding.i c.loop-encoding.next) [
      | inl some ↦
          to_spaced c.args.encoding c.args.bytes.now c.names_have_no_space.ensures.begins
          name place c.loop-encoding.i c.loop-encoding.next some
          c.loop-encoding.invariant.2 c.loop-encoding.invariant.3
          ∙ on c.args.encoding name place (in_tag spaced name place)
          (as_spaced c.args.encoding c.args.bytes.now name place c.loop-encoding.next
          (c.begins_attribute.ensures.not c.loop-encoding-test.false some))
      | inr none_left ↦
          let same : c.loop-encoding.i ≡ c.loop-encoding.next = omega (arith, none_left, c.loop-encoding.invariant.1) in
          ap (λ k. verdict c.args.encoding (in_tag closed name place) (drop k c.args.bytes.now) k) same
          ∙ on c.args.encoding name place (in_tag closed name place)
          (as_closed c.args.encoding c.args.bytes.now name place c.loop-encoding.next)
    ]) c.tag_close.ensures.ok

pub returns-clause-err : goal.returns-clause-err
returns-clause-err c =
    IfErr-weaker c.tag_close.result _ _
    (λ fault breaks name place.
    c.loop-encoding.invariant.5 name place
    ∙ elim (cases_lt c.loop-encoding.i c.loop-encoding.next) [
      | inl some ↦
          to_spaced c.args.encoding c.args.bytes.now c.names_have_no_space.ensures.begins
          name place c.loop-encoding.i c.loop-encoding.next some
          c.loop-encoding.invariant.2 c.loop-encoding.invariant.3
          ∙ breaks c.args.encoding name place (in_tag spaced name place)
          (as_spaced c.args.encoding c.args.bytes.now name place c.loop-encoding.next
          (c.begins_attribute.ensures.not c.loop-encoding-test.false some))
      | inr none_left ↦
          let same : c.loop-encoding.i ≡ c.loop-encoding.next = omega (arith, none_left, c.loop-encoding.invariant.1) in
          ap (λ k. verdict c.args.encoding (in_tag closed name place) (drop k c.args.bytes.now) k) same
          ∙ breaks c.args.encoding name place (in_tag closed name place)
          (as_closed c.args.encoding c.args.bytes.now name place c.loop-encoding.next)
    ]) c.tag_close.ensures.err
