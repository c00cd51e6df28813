use Rattle.std.proofs.Common.{◌≡◌, ℕ, ◌+◌, false, cond, ◌&&◌, get_or, ap, subst}
use Rattle.std.specs.Prelude.{◌==◌, nat_le}
use Rattle.std.proofs.lemmas.Bool.{lt-ltb, lt-leb, and_left, and_right, ne_eqb, eq-eqb}
use Rattle.pom_text.specs.Scans.{MarkRun}
use Rattle.pom_text.proofs.MarkRuns.{low_byte, mark_more, mark_char}
use Rattle.pom_text.proofs.scans.mark_end.Goals as goal
use Rattle.pom_text.proofs.scans.mark_end.Goals.{else-byte-eq62-via-then-byte-eq62+else-least-count, else-byte-eq62-via-else-byte-eq62}

pub loop-i-preserved-then-byte-sign : goal.loop-i-preserved-then-byte-sign
loop-i-preserved-then-byte-sign c =
    let byte : ℕ = get_or c.args.bytes.now c.loop-i.i 0 in
    let same : byte ≡ c.args.sign = c.if-byte-sign.true in
    let not_ended : (byte == 62 && nat_le c.args.least c.loop-i.count) ≡ false = elim c.else-byte-eq62.branch [
      | else-byte-eq62-via-then-byte-eq62+else-least-count w ↦ and_right (byte == 62)
          (nat_le c.args.least c.loop-i.count) (lt-leb c.args.least c.loop-i.count w.if-least-count.false)
      | else-byte-eq62-via-else-byte-eq62 w ↦ and_left (byte == 62) (nat_le c.args.least c.loop-i.count)
          (ne_eqb byte 62 w.if-byte-eq62.false)
    ] in
    subst (λ n. MarkRun c.args.encoding c.args.bytes.now c.args.sign c.args.least c.args.at (c.loop-i.i + 1) n)
    (ap (λ b. cond b (c.loop-i.count + 1) 0) (eq-eqb byte c.args.sign same))
    (mark_more c.args.encoding c.args.bytes.now c.args.sign c.args.least c.args.at c.loop-i.i c.loop-i.count
    c.loop-i-test.true (low_byte byte c.args.sign same c.requires.ascii) not_ended c.loop-i.invariant)

pub loop-i-preserved-then-byte-lt128 : goal.loop-i-preserved-then-byte-lt128
loop-i-preserved-then-byte-lt128 c =
    let byte : ℕ = get_or c.args.bytes.now c.loop-i.i 0 in
    let not_ended : (byte == 62 && nat_le c.args.least c.loop-i.count) ≡ false = elim c.else-byte-eq62.branch [
      | else-byte-eq62-via-then-byte-eq62+else-least-count w ↦ and_right (byte == 62)
          (nat_le c.args.least c.loop-i.count) (lt-leb c.args.least c.loop-i.count w.if-least-count.false)
      | else-byte-eq62-via-else-byte-eq62 w ↦ and_left (byte == 62) (nat_le c.args.least c.loop-i.count)
          (ne_eqb byte 62 w.if-byte-eq62.false)
    ] in
    subst (λ n. MarkRun c.args.encoding c.args.bytes.now c.args.sign c.args.least c.args.at (c.loop-i.i + 1) n)
    (ap (λ b. cond b (c.loop-i.count + 1) 0) (ne_eqb byte c.args.sign c.if-byte-sign.false))
    (mark_more c.args.encoding c.args.bytes.now c.args.sign c.args.least c.args.at c.loop-i.i c.loop-i.count
    c.loop-i-test.true (lt-ltb byte 128 c.if-byte-lt128.true) not_ended c.loop-i.invariant)

pub loop-i-preserved : goal.loop-i-preserved
loop-i-preserved c =
    mark_char c.args.encoding c.args.bytes.now c.args.sign c.args.least c.args.at c.loop-i.i c.in-Ok.end c.loop-i.count
    c.requires.ascii c.in-Ok.ensures.forth c.loop-i.invariant c.in-Ok.ensures.ok c.in-Ok.ensures.past_ascii
