use Rattle.std.proofs.Common.{refl, ◌∙◌, arith}
use Rattle.http_link.proofs.HearFacts.{on_none, loop_on, loop_last, some_after}
use Rattle.http_link.proofs.hear.hear_rest.Goals as goal

pub pieces-init : goal.pieces-init
pieces-init g c = record {
  same_room = refl;
  pages = refl;
  later = omega arith;
  read = c.requires.read;
  hears = λ told limit reply before of h. on_none told _ c.args.reader.now limit reply c.args.into.now.items before h;
}

pub pieces-preserved : goal.pieces-preserved
pieces-preserved g c =
    let step = (rw c.in-More.is at c.in_ok-receive_some.ensures.steps) in
    record {
      same_room = c.in_ok-receive_some.ensures.room ∙ c.pieces.invariant.same_room;
      pages = c.in_ok-receive_some.ensures.pages ∙ c.pieces.invariant.pages;
      later = omega (arith, c.pieces.invariant.later, c.in_ok-receive_some.ensures.later);
      read = some_after _ _ _ c.pieces.reader c.receive_some.new.reader _ _ _ step c.pieces.invariant.read;
      hears = λ told limit reply before of h.
          loop_on told _ _ _ _ c.pieces.reader c.receive_some.new.reader limit reply c.args.into.now.items
          c.pieces.into.items c.receive_some.new.into.items before _
          c.pieces.invariant.pages of (c.pieces.invariant.hears told limit reply before of h) step;
    }

pub returns-in-Ended-clause-last : goal.returns-in-Ended-clause-last
returns-in-Ended-clause-last g c = λ told limit reply before of h.
    loop_last told _ _ _ _ c.pieces.reader c.receive_some.new.reader limit reply c.args.into.now.items
    c.pieces.into.items c.receive_some.new.into.items before _ c.in-Ended.ended
    c.pieces.invariant.pages of (c.pieces.invariant.hears told limit reply before of h)
    (rw c.in-Ended.is at c.in_ok-receive_some.ensures.steps)
