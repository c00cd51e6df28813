-- So many bytes of the artifact were given and appended, and link and store kept what every call keeps.
use Rattle.std.proofs.Common.{◌≡◌, ◌-◌, ◌≤◌, [], true, Some}
use Rattle.cache_store.specs.Kept.{AnyFile}
use Rattle.cache_store.specs.Stands.{Stands, disk_of, is_live, parts_of}
use Rattle.link_base.specs.Links.{LinkKept, Rows}
use Rattle.pool_rules.specs.Plans.{url_in}
use Rattle.res_base.specs.World.{at}
use Rattle.file_fetch.specs.Received.{artifact_at}
use Rattle.file_fetch.specs.Stores.{IsHeld, IsOpen, KeepsFaith, KeepsStore}
use Rattle.file_fetch.proofs.Receiving.{HasBegun}
use Rattle.file_fetch.proofs.artifacts.receive.Given as goal

abbrev pub invariant-pieces : goal.invariant-pieces
invariant-pieces g l =
    let link = g.L.Link in
    let disk = g.D.Disk in
    record {
      file : link.open_file l.link ≡ Some (artifact_at l.plan l.key (l.plan.limit - l.left));
      within : l.left ≤ l.plan.limit;
      live : is_live l.store ≡ true;
      stands : Stands disk.told l.store;
      is_open : IsOpen (parts_of l.store) l.part.number;
      kept_store : KeepsStore disk.told disk.moment disk.since AnyFile l.fn.store l.store;
      faith : (w : Rows) → KeepsFaith disk.told disk.moment disk.since w l.fn.store l.store;
      begun : (w : Rows) → link.agrees l.fn.link w → IsHeld disk.told l.fn.store l.part.number []
          → HasBegun (at w (url_in l.plan l.key)) (IsHeld disk.told l.store l.part.number) (l.plan.limit - l.left);
      disk_later : disk.faults (disk_of l.fn.store) ≤ disk.faults (disk_of l.store);
      faults : link.faults l.link ≡ link.faults l.fn.link;
      asked : link.asked l.link ≡ link.asked l.fn.link;
      failed : link.failed_urls l.link ≡ link.failed_urls l.fn.link;
      kept : LinkKept link.agrees link.faults link.asked link.failed_urls l.fn.link l.link;
    }

abbrev pub decreases-pieces : goal.decreases-pieces
decreases-pieces g l = l.left
