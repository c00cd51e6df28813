use Rattle.std.proofs.Common.{◌≡◌, ◌<◌, length, take, sym, ◌∙◌, ap, map, arith}
use Rattle.std.specs.Char.{to_ascii_lowercase}
use Rattle.std.proofs.lemmas.List.{take_all, length-set}
use Rattle.case_table.specs.Rows.{value_at}
use Rattle.pom_grammar.specs.Declarations.{encoding_rows}
use Rattle.pom_text.proofs.TableFacts.{long_name, lowered_more}
use Rattle.pom_text.proofs.tables.known.Goals as goal

pub returns-then-name-gt-LONGEST : goal.returns-then-name-gt-LONGEST
returns-then-name-gt-LONGEST c = sym (long_name c.args.name.now c.if-name-gt-LONGEST.true)

pub loop-i-preserved : goal.loop-i-preserved
loop-i-preserved c =
    let small = c.loop-i.lowered in
    let within : c.loop-i.i < length small = omega (arith, c.loop-i.invariant.0) in (
      length-set small c.loop-i.i c.to_ascii_lowercase.result ∙ c.loop-i.invariant.0,
      lowered_more small c.args.name.now c.loop-i.i c.to_ascii_lowercase.result c.loop-i.invariant.1 within
          c.loop-i-test.true c.to_ascii_lowercase.ensures.value,
    )

pub returns : goal.returns
returns c =
    let name = c.args.name.now in
    let whole : c.loop-i.i ≡ length name = omega arith in
    c.encoding.ensures
    ∙ ap (λ x. value_at x encoding_rows)
    (ap (λ n. take n c.loop-i.lowered) (sym whole) ∙ c.loop-i.invariant.1
    ∙ ap (map to_ascii_lowercase) (ap (λ n. take n name) whole ∙ take_all (length name) name (omega arith)))
