use Rattle.std.proofs.Common.{get_or, refl, sym, ◌∙◌, ap, subst, arith}
use Rattle.std.proofs.lemmas.Bool.{lt-ltb}
use Rattle.pom_grammar.specs.declared.encoding.Tail.TheVariants.{Whole}
use Rattle.pom_grammar.specs.Machine.{in_run, in_quotes, in_segment, step}
use Rattle.pom_text.specs.Scans.{Breaks}
use Rattle.pom_text.proofs.Runs.{runs_one, runs_join, breaks_from, breaks_end, stops_with}
use Rattle.pom_text.proofs.MarkRuns.{value_quiet, value_bracket}
use Rattle.pom_text.proofs.scans.value_end.Goals as goal

pub returns-then-byte-eq60-clause-err : goal.returns-then-byte-eq60-clause-err
returns-then-byte-eq60-clause-err c = λ q name same.
    subst (Breaks c.args.encoding c.args.bytes.now (in_quotes q name) c.args.at) (sym c.bad_text.ensures)
    (breaks_from c.args.encoding c.args.bytes.now (in_quotes q name) c.args.at c.loop-i.i _
    (c.loop-i.invariant.0 q name same)
    (λ place seen. stops_with c.args.encoding c.args.bytes.now
    (in_segment (in_quotes q name) place seen Whole) _ c.loop-i.i c.loop-i-test.true
    (ap (step c.args.encoding (in_segment (in_quotes q name) place seen Whole)) c.if-byte-eq60.true
    ∙ value_bracket c.args.encoding q name seen place) refl))

pub loop-i-preserved-then-byte-lt128 : goal.loop-i-preserved-then-byte-lt128
loop-i-preserved-then-byte-lt128 c = (
  λ q name same. runs_one c.args.encoding c.args.bytes.now (in_quotes q name) c.args.at c.loop-i.i c.loop-i-test.true
      (lt-ltb _ 128 c.if-byte-lt128.true)
      (value_quiet q name
      (get_or c.args.bytes.now c.loop-i.i 0) c.args.quote same c.if-byte-quote.false c.if-byte-eq60.false)
      (c.loop-i.invariant.0 q name same),
  omega arith,
)

pub returns-in-Err-clause-err : goal.returns-in-Err-clause-err
returns-in-Err-clause-err c =
    λ q name same. breaks_from c.args.encoding c.args.bytes.now (in_quotes q name) c.args.at c.loop-i.i c.in-Err.fault
    (c.loop-i.invariant.0 q name same) (c.in-Err.ensures.err (in_quotes q name))

pub loop-i-preserved : goal.loop-i-preserved
loop-i-preserved c = (
  λ q name same. runs_join c.args.encoding c.args.bytes.now (in_quotes q name) c.args.at c.loop-i.i c.in-Ok.end
      (c.loop-i.invariant.0 q name same) (c.in-Ok.ensures.ok (in_quotes q name)),
  (c.in-Ok.ensures.ok in_run).within,
)

pub returns-clause-err : goal.returns-clause-err
returns-clause-err c = λ q name same.
    subst (Breaks c.args.encoding c.args.bytes.now (in_quotes q name) c.args.at) (sym c.bad_text-2.ensures)
    (breaks_from c.args.encoding c.args.bytes.now (in_quotes q name) c.args.at c.loop-i.i _
    (c.loop-i.invariant.0 q name same)
    (breaks_end c.args.encoding c.args.bytes.now (in_quotes q name) c.loop-i.i c.loop-i-test.false))
