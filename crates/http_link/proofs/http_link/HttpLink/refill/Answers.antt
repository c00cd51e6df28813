use Rattle.std.proofs.Common.{◌∙◌}
use Rattle.http_link.proofs.KnownFacts.{LimitLaws}
use Rattle.http_link.proofs.LinkFacts.{agrees_reading, known_reading}
use Rattle.http_link.proofs.OpenFacts.{refill_reading, read_some, known_refill}
use Rattle.http_link.proofs.http_link.HttpLink.refill.Goals as goal

pub hear_some-requires-clause-read : goal.hear_some-requires-clause-read
hear_some-requires-clause-read g c =
    read_some c.args.reading.opening.ended c.args.reading.opening.reader c.args.reading.file.limit _
    (c.is_ready.ensures.open c.if-is_ready.false) (known_reading c.args.reading).read

pub reading_of-requires : goal.reading_of-requires
reading_of-requires g c =
    let laws : LimitLaws = record { reads = c.read_is_outcome.ensures; within = c.within_limit.ensures.within } in
    known_refill c.in_ok-step.step _ _ _ c.args.reading.opening.reader _ c.args.reading.file.limit
    c.args.reading.file.given _ c.args.reading.opening.pending.items _ c.args.reading.opening.ended c.ended.result
    laws (c.is_ready.ensures.empty c.if-is_ready.false) (c.is_ready.ensures.open c.if-is_ready.false)
    (c.as_mut_slice.ensures.len ∙ c.in_ok-resize.ensures.len) c.ended.ensures c.in_ok-step.ensures.steps (known_reading c.args.reading)

pub returns-clause-agrees : goal.returns-clause-agrees
returns-clause-agrees g c = λ w a.
    agrees_reading _ _ w c.reading_of.result _ _ c.reading_of.ensures.file c.reading_of.ensures.opening
    (refill_reading _ _ _ w _ _ _ c.in_ok-step.step _ _ _ _ _ (c.is_ready.ensures.empty c.if-is_ready.false)
    (c.is_ready.ensures.open c.if-is_ready.false) c.ended.ensures c.in_ok-step.ensures.steps a)
