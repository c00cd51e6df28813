use Rattle.std.proofs.Common.{◌+◌, length, arith}
use Rattle.cache_layout.proofs.Tailed.{second_is, second_tail}
use Rattle.cache_layout.proofs.Tails.{in_field, in_rest, no_space}
use Rattle.cache_layout.proofs.record_lines.read_sha256.Goals as goal

pub returns-in_default-clause-refused : goal.returns-in_default-clause-refused
returns-in_default-clause-refused c = no_space second_tail c.args.text.now (λ rest. c.in_default.ensures.none rest)

pub returns-in-Err-clause-refused : goal.returns-in-Err-clause-refused
returns-in-Err-clause-refused c =
    let cut = c.part-cut.result in
    in_field second_tail c.args.text.now c.in-Some.after.now cut.first.now cut.rest.now c.in-Err.place
    (1 + c.in-Err.place) c.in-Some.ensures.rest c.part-cut.ensures.whole c.part-cut.ensures.before (omega arith)
    c.in-Err.ensures.refused

pub returns-in-Ok-read_length-clause-read : goal.returns-in-Ok-read_length-clause-read
returns-in-Ok-read_length-clause-read c =
    let cut = c.part-cut.result in
    second_is c.args.text.now c.in-Some.after.now cut.first.now cut.rest.now c.in-Ok.sha256 c.in-Ok-read_length.times
    c.in-Some.ensures.rest c.part-cut.ensures.whole c.in-Ok.ensures.read c.in-Ok-read_length.ensures.read

pub returns-in-Err-read_length-clause-refused : goal.returns-in-Err-read_length-clause-refused
returns-in-Err-read_length-clause-refused c =
    let cut = c.part-cut.result in
    in_rest second_tail c.args.text.now c.in-Some.after.now cut.first.now cut.rest.now c.in-Err-read_length.place
    (1 + length cut.first.now + c.in-Err-read_length.place) c.in-Some.ensures.rest c.part-cut.ensures.whole
    c.part-cut.ensures.before (omega arith) (c.in-Ok.sha256, c.in-Ok.ensures.read) c.in-Err-read_length.ensures.refused
