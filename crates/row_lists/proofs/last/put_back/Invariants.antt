use Rattle.std.proofs.Common.{◌≡◌, map}
use Rattle.row_lists.specs.RowLists.{with_imported}
use Rattle.row_lists.proofs.last.put_back.Given as goal

abbrev pub invariant-loop-row : goal.invariant-loop-row
invariant-loop-row l = l.made ≡ with_imported l.fn.set (map (λ row. row.now) l.yielded)
