-- No check so far decided, and the link kept what every call keeps.
use Rattle.std.proofs.Common.{◌≡◌, ◌+◌, ◌≤◌, None, drop, count_by}
use Rattle.res_base.specs.Paths.{url_at}
use Rattle.res_base.specs.World.{at}
use Rattle.link_base.specs.Links.{Rows, LinkKept}
use Rattle.file_answers.specs.Asking.{has_file}
use Rattle.file_answers.specs.Demands.{demand_of, MayDemand}
use Rattle.file_answers.specs.declared.demand.Demand.{Demand}
use Rattle.file_answers.proofs.checks.ask_checks.Given as goal

abbrev pub invariant-loop-check : goal.invariant-loop-check
invariant-loop-check g l =
    let link = g.L.Link in
    let url = url_at l.address l.path in
    let left = drop l.check-index l.checks in
    record {
      answer : (w : Rows) → link.agrees l.fn.link w → demand_of (at w) url l.checks ≡ demand_of (at w) url left;
      kind : (demand : Demand) → MayDemand left demand → MayDemand l.checks demand;
      faults : link.faults l.link ≡ link.faults l.fn.link;
      few : link.asked l.link + count_by has_file left ≤ link.asked l.fn.link + count_by has_file l.checks;
      closed : link.open_file l.fn.link ≡ None → link.open_file l.link ≡ None;
      failed : link.failed_urls l.link ≡ link.failed_urls l.fn.link;
      kept : LinkKept link.agrees link.faults link.asked link.failed_urls l.fn.link l.link;
    }
