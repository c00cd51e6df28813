use Rattle.std.proofs.Common.{◌≡◌, true, false, Some, [], ◌∷◌, ◌++◌, length, ap, sym, subst, ◌∙◌, rules}
use Rattle.std.specs.BTreeMap.{Updates}
use Rattle.row_lists.specs.Keys.{HasPlaces, key_part, row_key_cmp}
use Rattle.row_lists.specs.RowLists.{has_key_of, with_row}
use Rattle.row_lists.proofs.PlaceLemmas.{known_by, new_row, old_row, places_push}
use Rattle.row_lists.proofs.table.RowTable.with_row.Goals as goal

pub returns-then-contains_key : goal.returns-then-contains_key
returns-then-contains_key c =
    let row = c.args.row in
    let rows = c.self.inside.rows.items in
    let old : has_key_of row rows ≡ true = sym (known_by rows c.self.inside.places row c.self.invariant) ∙ sym c.contains_key.ensures ∙ c.if-contains_key.true in
    old_row rows row old ∙ ap (λ rows. with_row rows row) c.self.view_is

pub invariant_of-result-2 : goal.invariant_of-result-2
invariant_of-result-2 c =
    let row = c.args.row in
    let rows = c.self.inside.rows.items in
    let new : has_key_of row rows ≡ false = sym (known_by rows c.self.inside.places row c.self.invariant) ∙ sym c.contains_key.ensures ∙ c.if-contains_key.false in
    let key : c.in_ok-key.key ≡ key_part row = c.in_ok-key.ensures in
    let noted : Updates row_key_cmp c.self.inside.places c.insert.new.self c.in_ok-key.key (Some (length rows)) = search rules in
    let grown : rows ++ row ∷ [] ≡ c.push.new.self.items = search rules in
    subst (λ rows. HasPlaces rows c.insert.new.self) grown (places_push rows c.self.inside.places c.insert.new.self c.in_ok-key.key row c.self.invariant new key noted)

pub returns : goal.returns
returns c =
    let row = c.args.row in
    let rows = c.self.inside.rows.items in
    let new : has_key_of row rows ≡ false = sym (known_by rows c.self.inside.places row c.self.invariant) ∙ sym c.contains_key.ensures ∙ c.if-contains_key.false in
    let grown : c.push.new.self.items ≡ rows ++ row ∷ [] = search rules in
    grown ∙ new_row rows row new ∙ ap (λ rows. with_row rows row) c.self.view_is
