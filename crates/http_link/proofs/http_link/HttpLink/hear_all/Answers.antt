use Rattle.http_link.proofs.LinkFacts.{tail_is_ended, tail_is_open, last_ended}
use Rattle.http_link.proofs.OpenFacts.{reads_on}
use Rattle.http_link.proofs.http_link.HttpLink.hear_all.Goals as goal

pub returns-in-Some-clause-rest : goal.returns-in-Some-clause-rest
returns-in-Some-clause-rest g c = λ told limit reply of tail.
    tail_is_ended told _ c.args.opening.reader limit reply c.args.opening.pending.items c.args.opening.ended
    c.in-Some.ended c.in-Some.is tail

pub hear_rest-requires-clause-read : goal.hear_rest-requires-clause-read
hear_rest-requires-clause-read g c = reads_on _ _ c.in-None.is c.requires.read

pub returns-clause-rest : goal.returns-clause-rest
returns-clause-rest g c = λ told limit reply of tail.
    let on = tail_is_open told _ c.args.opening.reader limit reply c.args.opening.pending.items c.args.opening.ended
    c.in-None.is tail in
    last_ended told _ limit reply _ _ on.outcome c.in_ok-ended-in-None.ended on.same
    (c.in_ok-ended-in-None.ensures.last told limit reply on.outcome of on.hearing)
