-- The claims of the first keys ended and the work goes on; those of the others alone are in flight.
use Rattle.std.proofs.Common.{drop}
use Rattle.cache_store.specs.Stands.{disk_of}
use Rattle.fetch_pool.specs.Boards.{IsIdle, desk_of}
use Rattle.fetch_pool.specs.Flights.{AreDue}
use Rattle.fetch_pool.specs.Turns.{EndsSome, GoesOnSo, Kept}
use Rattle.pool_rules.specs.Counts.{counts_of}
use Rattle.fetch_pool.proofs.turns.work_all.Given as goal

abbrev pub invariant-loop-i : goal.invariant-loop-i
invariant-loop-i g l =
    let link = g.L.Link in
    let disk = g.D.Disk in
    let before = counts_of link.faults link.asked link.failed_urls disk.faults disk.last l.fn.link (disk_of l.fn.board.store) in
    let now = counts_of link.faults link.asked link.failed_urls disk.faults disk.last l.link (disk_of l.board.store) in
    record {
      ends : EndsSome (desk_of l.fn.board) (desk_of l.board) before now l.i;
      goes : GoesOnSo (desk_of l.fn.board) (desk_of l.board);
      kept : Kept link.agrees link.faults link.asked link.failed_urls disk.told disk.moment disk.since l.fn.board l.board
          l.fn.link l.link;
      idle : IsIdle disk.told l.board.store;
      due : AreDue l.fn.board.plan l.board.core.history l.seat (drop l.i l.keys);
    }
