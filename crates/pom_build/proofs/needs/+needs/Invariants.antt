use Rattle.std.proofs.Common.{◌+◌, ◌*◌, take}
use Rattle.res_base.specs.Known.{known_of}
use Rattle.pom_build.specs.Visits.{IsAllVisited}
use Rattle.pom_build.proofs.needs.+needs.Given as goal

abbrev pub decreases-expand : goal.decreases-expand
decreases-expand l = 3 * l.left

abbrev pub decreases-visit : goal.decreases-visit
decreases-visit l = 3 * l.left + 1

abbrev pub decreases-visit_all : goal.decreases-visit_all
decreases-visit_all l = 3 * l.left + 2

abbrev pub invariant-visit_all-loop-import : goal.invariant-visit_all-loop-import
invariant-visit_all-loop-import l =
    IsAllVisited (known_of l.known.pairs) l.known.repos l.left l.chain (take l.import-index l.imports) l.fn.seen l.made
