use Rattle.std.proofs.Common.{◌≡◌, [], map, drop}
use Rattle.row_lists.specs.RowLists.{with_imported}
use Rattle.row_lists.proofs.RowLemmas.{back_of}
use Rattle.row_lists.proofs.last.all_put_back.Given as goal

abbrev pub invariant-loop-list : goal.invariant-loop-list
invariant-loop-list l =
    with_imported l.last (back_of (map (λ list. list.now) (drop l.list-index l.lists)))
    ≡ with_imported [] (back_of (map (λ list. list.now) l.lists))
