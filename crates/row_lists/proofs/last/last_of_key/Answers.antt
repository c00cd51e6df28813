use Rattle.std.proofs.Common.{◌≡◌, [], reverse, ◌∙◌, ap, rules}
use Rattle.std.proofs.lemmas.List.{reverse-reverse}
use Rattle.row_lists.specs.RowLists.{last_of_key, with_imported}
use Rattle.row_lists.proofs.RowLemmas.{with_imported-reverse}
use Rattle.row_lists.proofs.last.last_of_key.Goals as goal

pub returns : goal.returns
returns c =
    let made : c.from_vec-2.result ≡ reverse c.in_ok-last.last = search rules in
    let last : c.in_ok-last.last ≡ with_imported [] (reverse c.args.rows) = search rules in
    made ∙ ap reverse (last ∙ with_imported-reverse c.args.rows) ∙ reverse-reverse (last_of_key c.args.rows)
