use Rattle.std.proofs.lemmas.Bool.{lt-ltb, ne_eqb}
use Rattle.pom_grammar.specs.Machine.{in_run}
use Rattle.pom_text.proofs.Runs.{runs_one, runs_join}
use Rattle.pom_text.proofs.scans.text_end.Goals as goal

pub loop-i-preserved-then-byte-lt128 : goal.loop-i-preserved-then-byte-lt128
loop-i-preserved-then-byte-lt128 c =
    runs_one c.args.encoding c.args.bytes.now in_run c.args.at c.loop-i.i c.loop-i-test.true
    (lt-ltb _ 128 c.if-byte-lt128.true) (λ seen. ne_eqb _ 60 c.if-byte-eq60.false) c.loop-i.invariant

pub loop-i-preserved : goal.loop-i-preserved
loop-i-preserved c =
    runs_join c.args.encoding c.args.bytes.now in_run c.args.at c.loop-i.i c.in_ok-i.i c.loop-i.invariant
    (c.in_ok-i.ensures.ok in_run)
