use Rattle.http_wire.proofs.HeadFacts.{found_head}
use Rattle.std.proofs.Common.{arith}
use Rattle.http_wire.proofs.heads.parse_head.Goals as goal

pub returns-clause-judged : goal.returns-clause-judged
returns-clause-judged c =
    found_head c.args.front.now c.parse_response.new.headers c.in-Ok-Complete.found c.in_ok-location.location
    c.start_of-start.result
    (rw c.in-Ok-Complete.field-0-is at c.in-Ok-Complete.ensures.within) (omega arith) c.if-found-front.false
    (rw c.in-Ok-Complete.field-0-is at c.in-Ok-Complete.ensures.complete) c.in_ok-location.ensures
    c.start_of-start.ensures.value
