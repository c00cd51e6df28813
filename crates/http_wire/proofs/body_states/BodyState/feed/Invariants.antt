use Rattle.std.specs.Prelude.{◌≡◌, ◌≤◌, ◌++◌, ◌-◌, length, drop}
use Rattle.http_wire.specs.BodyPlaces.{InRange}
use Rattle.http_wire.specs.BodyBytes.{after_bytes, content_of}
use Rattle.http_wire.proofs.body_states.BodyState.feed.Given as goal

abbrev pub invariant-loop-at : goal.invariant-loop-at
invariant-loop-at l = record {
  range : InRange l.self.place;
  within : l.at ≤ length l.piece;
  grows : length l.fn.into.items ≤ length l.into.items;
  after : after_bytes l.self (drop l.at l.piece) ≡ after_bytes l.fn.self l.piece;
  given : l.into.items ++ content_of l.self (drop l.at l.piece) ≡ l.fn.into.items ++ content_of l.fn.self l.piece;
}

abbrev pub decreases-loop-at : goal.decreases-loop-at
decreases-loop-at l = length l.piece - l.at
