use Rattle.std.proofs.Common.{◌≡◌, ◌≤◌, ℕ, List, drop, length}
use Rattle.disk_base.specs.Tables.{names_in, names_of}
use Rattle.disk_base.proofs.rows.Table.load.Given as goal

abbrev pub invariant-loop-from : goal.invariant-loop-from
invariant-loop-from l =
    (l.from ≤ length l.first) × ((n : List ℕ) → names_in l.table n ≡ names_of (drop l.from l.first) n)

abbrev pub decreases-loop-from : goal.decreases-loop-from
decreases-loop-from l = l.from
