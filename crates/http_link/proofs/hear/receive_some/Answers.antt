use Rattle.std.proofs.Common.{refl, sym, ◌∙◌, arith}
use Rattle.http_link.proofs.HearFacts.{Laws, steps_on, steps_last, steps_end, step_nearer}
use Rattle.http_link.proofs.hear.receive_some.Goals as goal

pub returns-then-count-eq0-clause-steps : goal.returns-then-count-eq0-clause-steps
returns-then-count-eq0-clause-steps g c = λ told limit reply before of h.
    let laws : Laws = record {
      stays = c.final_stays.ensures.stays;
      closes = c.final_stays.ensures.closed;
      shows =
          c.shown_is_seen.ensures;
      reads = c.read_is_outcome.ensures;
      full = c.within_limit.ensures.full;
    } in
    steps_end told _ _ _ c.args.reader.now c.finish.new.self limit reply c.receive.new.into c.args.into.now.items
    before c.in-Ok.count _ c.finish.result laws
    c.finish.ensures.head of h c.in-Ok.ensures.received c.if-count-eq0.true
    (omega (arith, c.receive.ensures.as_long, c.requires)) (c.finish.ensures.ended limit h.bytes before h.read)

pub returns-in-Ok-More-clause-steps : goal.returns-in-Ok-More-clause-steps
returns-in-Ok-More-clause-steps g c = λ told limit reply before of h.
    steps_on told _ _ _ c.args.reader.now c.feed.new.self limit reply c.receive.new.into c.args.into.now.items
    c.feed.new.into.items before c.in-Ok.count _ of h
    c.in-Ok.ensures.goes_on c.in-Ok.ensures.received c.in-Ok.ensures.room c.receive.ensures.as_long
    ((rw c.in-Ok-More.field-0-is at c.in-Ok-More.ensures.feeds) refl limit h.bytes before h.read)

pub returns-in-Ok-More-clause-nearer : goal.returns-in-Ok-More-clause-nearer
returns-in-Ok-More-clause-nearer g c = λ h is.
    step_nearer c.args.reader.now c.feed.new.self h.0 h.1 c.receive.new.into c.args.into.now.items
    c.feed.new.into.items h.2 c.in-Ok.count c.in-Ok.ensures.room c.if-count-eq0.false
    ((rw c.in-Ok-More.field-0-is at c.in-Ok-More.ensures.feeds) refl h.0 h.1 h.2 h.3)

pub returns-in-Ok-Done-clause-steps : goal.returns-in-Ok-Done-clause-steps
returns-in-Ok-Done-clause-steps g c = λ told limit reply before of h.
    let laws : Laws = record {
      stays = c.final_stays.ensures.stays;
      closes = c.final_stays.ensures.closed;
      shows =
          c.shown_is_seen.ensures;
      reads = c.read_is_outcome.ensures;
      full = c.within_limit.ensures.full;
    } in
    steps_last told _ _ _ c.args.reader.now c.feed.new.self limit reply c.receive.new.into c.args.into.now.items
    c.feed.new.into.items before c.in-Ok.count _ _ laws
    of h c.in-Ok.ensures.goes_on c.in-Ok.ensures.received c.in-Ok.ensures.room c.receive.ensures.as_long
    ((rw c.in-Ok-Done.field-0-is at c.in-Ok-Done.ensures.feeds) refl limit h.bytes before h.read) tt

pub returns-else-is_memory-clause-steps : goal.returns-else-is_memory-clause-steps
returns-else-is_memory-clause-steps g c = λ told limit reply before of h.
    let laws : Laws = record {
      stays = c.final_stays.ensures.stays;
      closes = c.final_stays.ensures.closed;
      shows =
          c.shown_is_seen.ensures;
      reads = c.read_is_outcome.ensures;
      full = c.within_limit.ensures.full;
    } in
    steps_last told _ _ _ c.args.reader.now c.feed.new.self limit reply c.receive.new.into c.args.into.now.items
    c.feed.new.into.items before c.in-Ok.count _ _ laws
    of h c.in-Ok.ensures.goes_on c.in-Ok.ensures.received c.in-Ok.ensures.room c.receive.ensures.as_long
    (c.in-Err-feed.ensures.feeds (sym c.is_memory.ensures ∙ c.if-is_memory.false) limit h.bytes before h.read) tt
