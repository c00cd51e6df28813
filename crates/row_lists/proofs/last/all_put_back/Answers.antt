use Rattle.std.proofs.Common.{◌≡◌, [], map, drop, sym, ◌∙◌, ap, arith}
use Rattle.std.proofs.lemmas.List.{drop_all}
use Rattle.row_lists.specs.RowLists.{with_imported}
use Rattle.row_lists.proofs.RowLemmas.{back_of, with_imported-back_of}
use Rattle.row_lists.proofs.last.all_put_back.Goals as goal

pub returns : goal.returns
returns c =
    let behind : drop c.loop-list.list-index c.args.lists.now ≡ [] =
    drop_all c.loop-list.list-index c.args.lists.now (omega (arith, c.loop-list-test.false)) in
    ap (λ lists. with_imported c.loop-list.last (back_of (map (λ list. list.now) lists))) (sym behind)
    ∙ c.loop-list.invariant ∙ with_imported-back_of (map (λ list. list.now) c.args.lists.now)
