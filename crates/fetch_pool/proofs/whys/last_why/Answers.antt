use Rattle.std.proofs.Common.{None, ap, ◌∙◌, arith}
use Rattle.std.proofs.lemmas.List.{take_all}
use Rattle.fetch_pool.proofs.Telling.{by_events, told}
use Rattle.fetch_pool.proofs.whys.last_why.Goals as goal

pub returns : goal.returns
returns c h is =
    c.loop-event.invariant
    ∙ ap (by_events c.args.key.now None) (take_all c.loop-event.event-index c.args.events.now (omega (arith, c.loop-event-test.false)))
    ∙ ap (by_events c.args.key.now None) is ∙ told c.args.key.now h
