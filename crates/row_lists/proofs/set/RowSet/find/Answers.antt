use Rattle.std.proofs.Common.{◌≡◌, ℕ, None, Some, List, map, get_or, ap, sym, ◌∙◌, rules}
use denote.Ref.{Bor}
use Rattle.std.specs.BTreeMap.{get}
use Rattle.std.specs.List.{find}
use Rattle.std.proofs.Math.ListN.{get_or-map}
use Rattle.res_base.specs.declared.pom.DepRecord.{DepRecord}
use Rattle.row_lists.specs.Keys.{place_of, row_key_cmp}
use Rattle.row_lists.specs.RowLists.{row_key_eq}
use Rattle.row_lists.proofs.PlaceLemmas.{found, not_found}
use Rattle.row_lists.proofs.set.RowSet.find.Goals as goal

pub returns-in-None : goal.returns-in-None
returns-in-None c =
    let row = c.args.row.now in
    let got : get row_key_cmp c.self.inside.places row ≡ None = search rules in
    let none : place_of row c.args.self.now ≡ None = ap (place_of row) (sym c.self.view_is) ∙ sym (c.self.invariant row) ∙ got in
    sym (not_found row c.args.self.now none)

pub returns-in-Some : goal.returns-in-Some
returns-in-Some c =
    let row = c.args.row.now in
    let place = c.in-Some.place.now in
    let one : Bor DepRecord = c.index.result.now in
    let got : get row_key_cmp c.self.inside.places row ≡ Some place = search rules in
    let placed : place_of row c.args.self.now ≡ Some place = ap (place_of row) (sym c.self.view_is) ∙ sym (c.self.invariant row) ∙ got in
    let read : one.now ≡ get_or c.args.self.now place one.now =
    ap (λ (r : Bor DepRecord). r.now) c.index.ensures ∙ sym (get_or-map (λ (r : Bor DepRecord). r.now) c.self.inside.rows.items place one)
    ∙ ap (λ rows. get_or rows place one.now) c.self.view_is in
    ap Some read ∙ sym (found row c.args.self.now place one.now placed)
