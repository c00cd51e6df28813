use Rattle.std.proofs.Common.{◌≡◌}
use Rattle.row_lists.specs.RowLists.{all_managed}
use Rattle.row_lists.proofs.table.RowTable.all_managed.Given as goal

abbrev pub invariant-loop-row : goal.invariant-loop-row
invariant-loop-row l = l.made ≡ all_managed l.self l.yielded
