use Rattle.std.proofs.Common.{◌≡◌, List, map, reverse, ◌∙◌, ap, rules}
use denote.Ref.{Bor}
use Rattle.std.proofs.lemmas.List.{reverse-reverse}
use Rattle.res_base.specs.declared.pom.DepRecord.{DepRecord}
use Rattle.row_lists.specs.RowLists.{joined}
use Rattle.row_lists.proofs.RowLemmas.{seen_reverse}
use Rattle.row_lists.proofs.last.joined.Goals as goal

abbrev seen : List (Bor DepRecord) → List DepRecord
seen rows = map (λ row. row.now) rows

pub returns : goal.returns
returns c =
    let lists = map (λ (list : Bor (List DepRecord)). list.now) c.args.lists.now in
    let made : seen c.into_rows-made.result.items ≡ reverse (joined lists) = search rules in
    let turned : c.reverse.new.self.items ≡ reverse c.into_rows-made.result.items = search rules in
    ap seen turned ∙ seen_reverse c.into_rows-made.result.items ∙ ap reverse made ∙ reverse-reverse (joined lists)
