use Rattle.std.proofs.Common.{◌≡◌, ◌+◌, false, get_or, sym, ◌∙◌, arith}
use Rattle.ascii_bytes.specs.Classes.{is_hex_digit}
use Rattle.digest_check.proofs.Runs.{run_found, run_passed, run_begins, run_more, rest_digits, last_found, last_passed}
use Rattle.digest_check.proofs.checksum.find_run.Goals as goal
use Rattle.digest_check.proofs.checksum.find_run.Goals.{then-not-is_hex_digit+else-i-start, else-not-is_hex_digit}

pub returns-then-i-start-clause-value : goal.returns-then-i-start-clause-value
returns-then-i-start-clause-value c =
    let other : is_hex_digit (get_or c.args.bytes.now c.loop-i.i 0) ≡ false = sym c.is_hex_digit.ensures
    ∙ c.if-not-is_hex_digit.true in
    let found = run_found c.args.bytes.now c.args.len c.loop-i.start c.loop-i.i c.loop-i.invariant.0
    c.loop-i-test.true c.loop-i.invariant.1 other c.if-i-start.true in
    sym found ∙ c.loop-i.invariant.2

pub loop-i-preserved : goal.loop-i-preserved
loop-i-preserved c =
    let bytes = c.args.bytes.now in
    let start = c.loop-i.start in
    let i = c.loop-i.i in
    elim c.if-not-is_hex_digit.branch [
      | then-not-is_hex_digit+else-i-start w ↦
          let passed = run_passed bytes c.args.len start i c.loop-i.invariant.0 c.loop-i-test.true
          c.loop-i.invariant.1 (sym c.is_hex_digit.ensures ∙ w.if-not-is_hex_digit.true) w.if-i-start.false in
          rw w.start-is (omega arith, run_begins bytes (i + 1), sym passed ∙ c.loop-i.invariant.2)
      | else-not-is_hex_digit w ↦
          let more = run_more bytes start i c.loop-i.invariant.0 c.loop-i-test.true c.loop-i.invariant.1
          (sym c.is_hex_digit.ensures ∙ w.if-not-is_hex_digit.false) in
          rw w.start-is (omega (arith, c.loop-i.invariant.0), more, c.loop-i.invariant.2)
    ]

pub returns-then-last-len-clause-value : goal.returns-then-last-len-clause-value
returns-then-last-len-clause-value c =
    let digits = rest_digits c.args.bytes.now c.loop-i.start c.loop-i.i c.loop-i.auto.i-end c.loop-i-test.false
    c.loop-i.invariant.1 in
    sym (last_found c.args.bytes.now c.args.len c.loop-i.start digits c.if-last-len.true) ∙ c.loop-i.invariant.2

pub returns-then-last-len-clause-digits : goal.returns-then-last-len-clause-digits
returns-then-last-len-clause-digits c = rest_digits c.args.bytes.now c.loop-i.start c.loop-i.i c.loop-i.auto.i-end
    c.loop-i-test.false c.loop-i.invariant.1

pub returns-else-last-len-clause-value : goal.returns-else-last-len-clause-value
returns-else-last-len-clause-value c =
    let digits = rest_digits c.args.bytes.now c.loop-i.start c.loop-i.i c.loop-i.auto.i-end c.loop-i-test.false
    c.loop-i.invariant.1 in
    sym (last_passed c.args.bytes.now c.args.len c.loop-i.start digits c.if-last-len.false) ∙ c.loop-i.invariant.2
