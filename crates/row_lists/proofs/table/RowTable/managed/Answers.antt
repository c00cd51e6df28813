use Rattle.std.proofs.Common.{◌≡◌, None, Some, IfOk, get_or, ap, sym, subst, ◌∙◌, rules}
use Rattle.std.specs.BTreeMap.{get}
use Rattle.std.specs.List.{find}
use Rattle.std.specs.Prelude.{Option}
use Rattle.res_base.specs.declared.pom.DepRecord.{DepRecord}
use Rattle.row_lists.specs.Keys.{place_of, row_key_cmp}
use Rattle.row_lists.specs.RowLists.{completed, row_key_eq}
use Rattle.row_lists.proofs.PlaceLemmas.{found, not_found}
use Rattle.row_lists.proofs.table.RowTable.managed.Goals as goal

pub returns-in-None : goal.returns-in-None
returns-in-None c =
    let row = c.args.row in
    let got : get row_key_cmp c.self.inside.places row ≡ None = search rules in
    let none : place_of row c.args.self.now ≡ None = ap (place_of row) (sym c.self.view_is) ∙ sym (c.self.invariant row) ∙ got in
    subst (λ (managed : Option DepRecord). IfOk c.completed.result (λ made. made ≡ completed managed row)) (sym (not_found row c.args.self.now none)) c.completed.ensures

pub returns-in-Some : goal.returns-in-Some
returns-in-Some c =
    let row = c.args.row in
    let place = c.in-Some.place.now in
    let one : DepRecord = c.index.result.now in
    let got : get row_key_cmp c.self.inside.places row ≡ Some place = search rules in
    let placed : place_of row c.args.self.now ≡ Some place = ap (place_of row) (sym c.self.view_is) ∙ sym (c.self.invariant row) ∙ got in
    let read : one ≡ get_or c.args.self.now place one = c.index.ensures ∙ ap (λ rows. get_or rows place one) c.self.view_is in
    let is : find (row_key_eq row) c.args.self.now ≡ Some one = found row c.args.self.now place one placed ∙ ap Some (sym read) in
    subst (λ (managed : Option DepRecord). IfOk c.completed-in-Some.result (λ made. made ≡ completed managed row)) (sym is) c.completed-in-Some.ensures
