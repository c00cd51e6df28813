use Rattle.std.proofs.Common.{◌^◌, ◌<◌, ◌≤◌, length, arith}
use Rattle.real_edge.proofs.Whole.{read_whole}
use Rattle.real_edge.proofs.pieces.read_whole.Goals as goal

pub returns-in-Ok-clause-answer : goal.returns-in-Ok-clause-answer
returns-in-Ok-clause-answer g c =
    let bytes = c.read_to_end.new.buf in
    let small : length bytes.items < 2 ^ 63 = omega (arith, bytes.ok.0, bytes.ok.1, bytes.small) in
    let fits : length bytes.items ≤ c.args.limit = omega (arith, bytes.ok.0, c.len.ensures, c.if-len-limit.true) in
    let taken = rw (c.take.ensures.limit, c.take.ensures.inner, c.new-bytes.ensures.items) at c.in-Ok.ensures.bytes in
    let count = c.saturating_add in
    rw c.from_vec.ensures
    (read_whole (g.F.Read.remaining c.args.file) c.args.limit count.result bytes.items count.ensures small fits taken)
