-- So far these keys were claimed and nothing else happened, and they alone are in flight.
use Rattle.std.proofs.Common.{◌≡◌, ◌<◌, None, true, length}
use Rattle.claim_rules.specs.Counts.{claims}
use Rattle.claim_rules.specs.Histories.{claim}
use Rattle.fetch_pool.specs.Boards.{IsSameBoard}
use Rattle.fetch_pool.specs.Flights.{AreDue, with_each}
use Rattle.fetch_pool.specs.Turns.{most_claims}
use Rattle.fetch_pool.proofs.claims.claim_batch.Given as goal

abbrev pub invariant-batch : goal.invariant-batch
invariant-batch g l = record {
  same : IsSameBoard l.fn.board l.board;
  claimed : l.board.core.history ≡ with_each l.fn.board.core.history l.seat (λ key. claim key) l.keys.items;
  due : AreDue l.fn.board.plan l.board.core.history l.seat l.keys.items;
  some : 0 < length l.keys.items;
  room : claims l.fn.board.core.history < most_claims l.fn.board.core.settings;
  going : l.board.ended ≡ None;
  caught_up : l.board.core.caught_up ≡ true;
}
