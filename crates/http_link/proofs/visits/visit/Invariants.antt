use Rattle.std.specs.Prelude.{◌≡◌, ◌≤◌, List, Some, length}
use Rattle.http_visits.specs.declared.pages.Page.{Page}
use Rattle.http_visits.specs.Pages.{Says}
use Rattle.http_visits.specs.Visits.{Visits}
use Rattle.http_link.proofs.visits.visit.Given as goal

abbrev pub invariant-redirects : goal.invariant-redirects
invariant-redirects g l = record {
  room : length l.buffer ≡ length l.fn.buffer;
  pages : g.W.Wire.pages l.wire ≡ g.W.Wire.pages l.fn.wire;
  later : g.W.Wire.faults l.fn.wire ≤ g.W.Wire.faults l.wire;
  few : l.left ≤ 5;
  visits : (rows : List Page) → g.W.Wire.pages l.fn.wire ≡ Some rows → (says : Says)
      → Visits rows l.limit l.left l.place says → Visits rows l.limit 5 l.fn.start says;
}

abbrev pub decreases-redirects : goal.decreases-redirects
decreases-redirects g l = l.left
