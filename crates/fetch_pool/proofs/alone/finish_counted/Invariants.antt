-- Between two turns the work goes on, all is kept, and no part is open. Each turn makes a claim, and there are only so many.
use Rattle.std.proofs.Common.{◌≡◌, ◌-◌, true}
use Rattle.cache_store.specs.Stands.{disk_of}
use Rattle.claim_rules.specs.Counts.{claims}
use Rattle.fetch_pool.specs.Boards.{IsIdle, desk_of}
use Rattle.fetch_pool.specs.Turns.{Kept, most_claims}
use Rattle.pool_rules.specs.Counts.{counts_of}
use Rattle.pool_rules.specs.Works.{AsksFor, IsGoing}
use Rattle.fetch_pool.proofs.alone.finish_counted.Given as goal

abbrev pub invariant-turns : goal.invariant-turns
invariant-turns g l =
    let link = g.L.Link in
    let disk = g.D.Disk in
    let before = counts_of link.faults link.asked link.failed_urls disk.faults disk.last l.fn.link (disk_of l.fn.board.store) in
    let now = counts_of link.faults link.asked link.failed_urls disk.faults disk.last l.link (disk_of l.board.store) in
    record {
      going : IsGoing (desk_of l.fn.board) (desk_of l.board) before now;
      kept : Kept link.agrees link.faults link.asked link.failed_urls disk.told disk.moment disk.since l.fn.board l.board
          l.fn.link l.link;
      few : AsksFor (λ key. true) (desk_of l.fn.board) (desk_of l.board) before now;
      repos : l.board.core.settings.repos ≡ l.board.core.ask.repos;
      idle : IsIdle disk.told l.board.store;
    }

abbrev pub decreases-turns : goal.decreases-turns
decreases-turns g l = most_claims l.board.core.settings - claims l.board.core.history
