use Rattle.std.proofs.Common.{refl, sym, ◌∙◌, arith}
use Rattle.http_link.specs.declared.hear.Step.TheVariants.{More, Ended}
use Rattle.http_link.proofs.HearFacts.{nil_of, on_none, loop_on, first_step, some_after}
use Rattle.http_link.proofs.hear.hear_some.Goals as goal

pub pieces-init : goal.pieces-init
pieces-init g c = record {
  empty = c.requires.empty;
  same_room = refl;
  pages = refl;
  later = omega arith;
  read = c.requires.read;
  hears = λ told limit reply before of h. on_none told _ c.args.reader.now limit reply c.args.into.now.items before h;
}

pub returns-in-Ended-clause-steps : goal.returns-in-Ended-clause-steps
returns-in-Ended-clause-steps g c = λ told limit reply before of h.
    first_step (Ended c.in-Ended.ended) told _ _ _ _ c.pieces.reader c.receive_some.new.reader limit reply
    c.args.into.now.items c.pieces.into.items c.receive_some.new.into.items before _ _
    c.pieces.invariant.pages of c.requires.empty c.pieces.invariant.empty c.pieces.invariant.same_room
    (c.pieces.invariant.hears told limit reply before of h)
    (rw c.in-Ended.is at c.in_ok-receive_some.ensures.steps)

pub returns-then-not-is_empty-clause-steps : goal.returns-then-not-is_empty-clause-steps
returns-then-not-is_empty-clause-steps g c = λ told limit reply before of h.
    first_step More told _ _ _ _ c.pieces.reader c.receive_some.new.reader limit reply
    c.args.into.now.items c.pieces.into.items c.receive_some.new.into.items before _ _
    c.pieces.invariant.pages of c.requires.empty c.pieces.invariant.empty c.pieces.invariant.same_room
    (c.pieces.invariant.hears told limit reply before of h)
    (rw c.in-More.is at c.in_ok-receive_some.ensures.steps)

pub pieces-preserved : goal.pieces-preserved
pieces-preserved g c =
    let step = (rw c.in-More.is at c.in_ok-receive_some.ensures.steps) in
    record {
      empty = nil_of c.receive_some.new.into.len c.receive_some.new.into.items c.receive_some.new.into.ok.0
          (sym c.is_empty.ensures ∙ c.if-not-is_empty.false);
      same_room = c.in_ok-receive_some.ensures.room ∙ c.pieces.invariant.same_room;
      pages = c.in_ok-receive_some.ensures.pages ∙ c.pieces.invariant.pages;
      later = omega (arith, c.pieces.invariant.later, c.in_ok-receive_some.ensures.later);
      read = some_after _ _ _ c.pieces.reader c.receive_some.new.reader _ _ _ step c.pieces.invariant.read;
      hears = λ told limit reply before of h.
          loop_on told _ _ _ _ c.pieces.reader c.receive_some.new.reader limit reply c.args.into.now.items
          c.pieces.into.items c.receive_some.new.into.items before _
          c.pieces.invariant.pages of (c.pieces.invariant.hears told limit reply before of h) step;
    }
