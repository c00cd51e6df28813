use Rattle.std.proofs.Common.{◌≡◌}
use Rattle.row_lists.specs.RowLists.{with_imported}
use Rattle.row_lists.proofs.table.RowTable.with_imported.Given as goal

abbrev pub invariant-loop-row : goal.invariant-loop-row
invariant-loop-row l = l.made ≡ with_imported l.fn.self l.yielded
