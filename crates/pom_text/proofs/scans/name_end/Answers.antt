use Rattle.std.proofs.Common.{sym, ◌∙◌, arith}
use Rattle.std.proofs.lemmas.Bool.{lt-ltb}
use Rattle.pom_grammar.specs.Machine.{in_name}
use Rattle.pom_text.proofs.Runs.{runs_one, runs_join}
use Rattle.pom_text.proofs.MarkRuns.{naming_quiet}
use Rattle.pom_text.proofs.scans.name_end.Goals as goal

pub loop-i-preserved-then-byte-ge128 : goal.loop-i-preserved-then-byte-ge128
loop-i-preserved-then-byte-ge128 c = (
  λ kind is. runs_join c.args.encoding c.args.bytes.now kind c.args.at c.loop-i.i c.in_ok-i.i
      (c.loop-i.invariant.0 kind is) (c.in_ok-i.ensures.ok kind),
  (c.in_ok-i.ensures.ok in_name).within,
  omega (arith, c.loop-i.invariant.2, c.in_ok-i.ensures.forth),
)

pub loop-i-preserved : goal.loop-i-preserved
loop-i-preserved c = (
  λ kind is. runs_one c.args.encoding c.args.bytes.now kind c.args.at c.loop-i.i c.loop-i-test.true
      (lt-ltb _ 128 c.if-byte-ge128.false)
      (naming_quiet kind _ is (sym c.is_name_byte.ensures ∙ c.if-is_name_byte.true)) (c.loop-i.invariant.0 kind is),
  omega arith,
  omega (arith, c.loop-i.invariant.2),
)
