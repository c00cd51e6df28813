use Rattle.std.proofs.Common.{◌≡◌, drop}
use Rattle.row_lists.specs.RowLists.{with_imported}
use Rattle.row_lists.proofs.table.RowTable.with_copies.Given as goal

abbrev pub invariant-loop-row : goal.invariant-loop-row
invariant-loop-row l = with_imported l.made (drop l.row-index l.more) ≡ with_imported l.fn.self l.more
