use Rattle.std.proofs.Common.{◌+◌, length, arith}
use Rattle.cache_layout.proofs.Tailed.{digests_is, digests_tail}
use Rattle.cache_layout.proofs.Tails.{in_field, in_rest, no_space}
use Rattle.cache_layout.proofs.record_lines.read_digests.Goals as goal

pub returns-in_default-clause-refused : goal.returns-in_default-clause-refused
returns-in_default-clause-refused c =
    no_space (digests_tail c.args.second) c.args.text.now (λ rest. c.in_default.ensures.none rest)

pub returns-in-Err-clause-refused : goal.returns-in-Err-clause-refused
returns-in-Err-clause-refused c =
    let cut = c.part-cut.result in
    in_field (digests_tail c.args.second) c.args.text.now c.in-Some.after.now cut.first.now cut.rest.now c.in-Err.place
    (1 + c.in-Err.place) c.in-Some.ensures.rest c.part-cut.ensures.whole c.part-cut.ensures.before (omega arith)
    c.in-Err.ensures.refused

pub returns-in-Ok-read_ends-clause-read : goal.returns-in-Ok-read_ends-clause-read
returns-in-Ok-read_ends-clause-read c =
    let cut = c.part-cut.result in
    digests_is c.args.second c.args.text.now c.in-Some.after.now cut.first.now cut.rest.now c.in-Ok.sha1
    c.in-Ok-read_ends.ends c.in-Some.ensures.rest c.part-cut.ensures.whole c.in-Ok.ensures.read
    c.in-Ok-read_ends.ensures.read

pub returns-in-Err-read_ends-clause-refused : goal.returns-in-Err-read_ends-clause-refused
returns-in-Err-read_ends-clause-refused c =
    let cut = c.part-cut.result in
    in_rest (digests_tail c.args.second) c.args.text.now c.in-Some.after.now cut.first.now cut.rest.now
    c.in-Err-read_ends.place (1 + length cut.first.now + c.in-Err-read_ends.place) c.in-Some.ensures.rest
    c.part-cut.ensures.whole c.part-cut.ensures.before (omega arith) (c.in-Ok.sha1, c.in-Ok.ensures.read)
    c.in-Err-read_ends.ensures.refused
