-- The pieces so far are the first bytes of the file, and the link kept what every call keeps.
use Rattle.std.proofs.Common.{◌≡◌, ◌-◌, ◌≤◌, Some, length}
use Rattle.res_base.specs.Paths.{url_at}
use Rattle.res_base.specs.World.{at}
use Rattle.res_base.specs.Causes.{counted}
use Rattle.link_base.specs.Links.{Rows, LinkKept}
use Rattle.link_base.specs.Pieces.{BeginsFile}
use Rattle.link_base.proofs.pieces.get_in_pieces.Given as goal

abbrev pub invariant-pieces : goal.invariant-pieces
invariant-pieces g l =
    let link = g.L.Link in
    let url = url_at l.address l.path in
    record {
      opened : link.open_file l.link ≡ Some (record { url = url; limit = l.limit; given = length l.bytes.items });
      within : length l.bytes.items ≤ l.limit;
      begins : (w : Rows) → link.agrees l.fn.link w → BeginsFile (at w url) l.bytes.items;
      faults : link.faults l.link ≡ link.faults l.fn.link;
      asked : link.asked l.link ≡ counted (link.asked l.fn.link);
      failed : link.failed_urls l.link ≡ link.failed_urls l.fn.link;
      kept : LinkKept link.agrees link.faults link.asked link.failed_urls l.fn.link l.link;
    }

abbrev pub decreases-pieces : goal.decreases-pieces
decreases-pieces g l = l.limit - length l.bytes.items
