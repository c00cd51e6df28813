use Rattle.std.proofs.Common.{◌≡◌, true, false, Some, List, [], ◌∷◌, ◌++◌, length, map, ap, sym, subst, ◌∙◌, rules}
use denote.Ref.{Bor}
use Rattle.std.specs.BTreeMap.{Updates}
use Rattle.std.proofs.lemmas.List.{length-map, map-append}
use Rattle.res_base.specs.declared.pom.DepRecord.{DepRecord}
use Rattle.row_lists.specs.Keys.{HasPlaces, row_key_cmp}
use Rattle.row_lists.specs.RowLists.{has_key_of, with_row}
use Rattle.row_lists.proofs.PlaceLemmas.{known_by, new_row, old_row, places_put}
use Rattle.row_lists.proofs.set.RowSet.with_row.Goals as goal

abbrev seen : List (Bor DepRecord) → List DepRecord
seen rows = map (λ row. row.now) rows

pub returns-then-contains_key : goal.returns-then-contains_key
returns-then-contains_key c =
    let row = c.args.row.now in
    let rows = seen c.self.inside.rows.items in
    let old : has_key_of row rows ≡ true = sym (known_by rows c.self.inside.places row c.self.invariant) ∙ sym c.contains_key.ensures ∙ c.if-contains_key.true in
    old_row rows row old ∙ ap (λ rows. with_row rows row) c.self.view_is

pub invariant_of-result-2 : goal.invariant_of-result-2
invariant_of-result-2 c =
    let row = c.args.row.now in
    let rows = seen c.self.inside.rows.items in
    let new : has_key_of row rows ≡ false = sym (known_by rows c.self.inside.places row c.self.invariant) ∙ sym c.contains_key.ensures ∙ c.if-contains_key.false in
    let noted : Updates row_key_cmp c.self.inside.places c.insert.new.self row (Some (length c.self.inside.rows.items)) = search rules in
    let placed : Updates row_key_cmp c.self.inside.places c.insert.new.self row (Some (length rows)) =
    subst (λ n. Updates row_key_cmp c.self.inside.places c.insert.new.self row (Some n)) (sym (length-map c.self.inside.rows.items (λ (r : Bor DepRecord). r.now))) noted in
    let pushed : c.push.new.self.items ≡ c.self.inside.rows.items ++ c.args.row ∷ [] = search rules in
    let grown : rows ++ row ∷ [] ≡ seen c.push.new.self.items = sym (ap seen pushed ∙ map-append (λ (r : Bor DepRecord). r.now) c.self.inside.rows.items (c.args.row ∷ [])) in
    subst (λ rows. HasPlaces rows c.insert.new.self) grown (places_put rows c.self.inside.places c.insert.new.self row c.self.invariant new placed)

pub returns : goal.returns
returns c =
    let row = c.args.row.now in
    let rows = seen c.self.inside.rows.items in
    let new : has_key_of row rows ≡ false = sym (known_by rows c.self.inside.places row c.self.invariant) ∙ sym c.contains_key.ensures ∙ c.if-contains_key.false in
    let pushed : c.push.new.self.items ≡ c.self.inside.rows.items ++ c.args.row ∷ [] = search rules in
    ap seen pushed ∙ map-append (λ (r : Bor DepRecord). r.now) c.self.inside.rows.items (c.args.row ∷ [])
    ∙ new_row rows row new ∙ ap (λ rows. with_row rows row) c.self.view_is
