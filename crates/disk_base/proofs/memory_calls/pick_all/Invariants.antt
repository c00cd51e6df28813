use Rattle.std.proofs.Common.{◌≡◌, ◌++◌, drop}
use Rattle.disk_base.specs.Selected.{rows_picked}
use Rattle.disk_base.specs.Tables.{names_in}
use Rattle.disk_base.proofs.memory_calls.pick_all.Given as goal

abbrev pub invariant-loop-i : goal.invariant-loop-i
invariant-loop-i l =
    l.made ++ rows_picked l.picks l.i (names_in l.table) (drop l.i l.names)
    ≡ rows_picked l.picks 0 (names_in l.table) l.names
