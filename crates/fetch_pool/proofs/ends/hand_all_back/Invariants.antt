-- The claims of the first of the keys were given back, and those of the others alone are in flight.
use Rattle.std.proofs.Common.{◌≡◌, drop, take}
use Rattle.claim_rules.specs.Histories.{give_back}
use Rattle.fetch_pool.specs.Boards.{IsSameBoard}
use Rattle.fetch_pool.specs.Flights.{OnlyFlying, with_each}
use Rattle.fetch_pool.proofs.ends.hand_all_back.Given as goal

abbrev pub invariant-loop-key : goal.invariant-loop-key
invariant-loop-key g l = record {
  same : IsSameBoard l.fn.board l.board;
  ended : l.board.ended ≡ l.fn.board.ended;
  history : l.board.core.history
      ≡ with_each l.fn.board.core.history l.seat (λ key. give_back key) (take l.key-index l.keys);
  flying : OnlyFlying l.board.core.history l.seat (drop l.key-index l.keys);
}
