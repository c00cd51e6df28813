use Rattle.std.proofs.Common.{sym, ◌∙◌}
use Rattle.pom_text.proofs.MarkRuns.{stands_not, stands_past}
use Rattle.pom_text.proofs.scans.stands.Goals as goal
use Rattle.pom_text.proofs.scans.stands.Goals.{else-i-bytes-via-then-i-bytes+else-bytes-i, else-i-bytes-via-else-i-bytes}

pub returns-else-i-bytes : goal.returns-else-i-bytes
returns-else-i-bytes c =
    sym (c.loop-byte.invariant.1 ∙ (elim c.else-i-bytes.branch [
      | else-i-bytes-via-then-i-bytes+else-bytes-i w ↦ stands_not c.args.bytes.now c.args.literal.now
          c.loop-byte.byte-index c.loop-byte.i c.loop-byte-test.true w.if-i-bytes.true w.if-bytes-i.false
      | else-i-bytes-via-else-i-bytes w ↦ stands_past c.args.bytes.now c.args.literal.now c.loop-byte.byte-index
          c.loop-byte.i c.loop-byte-test.true w.if-i-bytes.false
    ]))
