use Rattle.std.proofs.Common.{◌+◌, ◌*◌, take}
use Rattle.res_base.specs.Known.{known_of}
use Rattle.pom_build.specs.Tries.{IsReady, IsSum, Keeps}
use Rattle.pom_build.proofs.imports.+imports.Given as goal

abbrev pub decreases-expand : goal.decreases-expand
decreases-expand l = 5 * l.left

abbrev pub decreases-too_high : goal.decreases-too_high
decreases-too_high l = 5 * l.left + 1

abbrev pub decreases-try_from : goal.decreases-try_from
decreases-try_from l = 5 * l.left + 2

abbrev pub decreases-gather : goal.decreases-gather
decreases-gather l = 5 * l.left + 3

abbrev pub decreases-by_line : goal.decreases-by_line
decreases-by_line l = 5 * l.left + 4

abbrev pub invariant-gather-loop-import : goal.invariant-gather-loop-import
invariant-gather-loop-import l =
    IsReady (known_of l.known.pairs) l.known.repos l.chain l.memo
    × Keeps l.initial.memo l.memo
    × IsSum (known_of l.known.pairs) l.known.repos l.left l.chain l.fn.table (take l.import-index l.imports) l.sum l.memo
