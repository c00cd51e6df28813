use Rattle.std.proofs.Common.{rules, sym, ◌∙◌, ap, Some}
use Rattle.std.proofs.lemmas.Fn.{always_returns_same}
use Rattle.case_table.proofs.Search.{found_first, found_none, rows_rise}
use Rattle.case_table.specs.Rows.{name_cmp, value_at}
use Rattle.case_table.proofs.table.Table.find.Goals as goal

pub returns-in-Ok-clause-value : goal.returns-in-Ok-clause-value
returns-in-Ok-clause-value g c =
    let by_name = c.in-Ok.ensures.position (λ row. name_cmp row.0 c.args.name.now)
    (always_returns_same _ _ _ (λ a r f called. search rules)) in
    let found = found_first c.args.name.now c.self.inside.rows.items c.self.invariant c.in-Ok.place c.index.result.now
    (rw (← c.deref.ensures.value) c.in-Ok.ensures.bound) c.index.ensures (rw (← c.deref.ensures.value) by_name) in
    ap Some (ap (λ row. row.1) c.behind-self.view_is) ∙ sym found ∙ ap (value_at c.args.name.now) c.self.view_is

pub returns-in-Err-clause-value : goal.returns-in-Err-clause-value
returns-in-Err-clause-value g c =
    let by_name = c.in-Err.ensures.position (λ row. name_cmp row.0 c.args.name.now)
    (always_returns_same _ _ _ (λ a r f called. search rules)) in
    let none = found_none c.args.name.now c.self.inside.rows.items c.self.invariant c.in-Err.field-0
    (rw (← c.deref.ensures.value) (by_name (rw c.deref.ensures.value
    (rows_rise c.args.name.now c.self.inside.rows.items c.self.invariant)))) in
    sym none ∙ ap (value_at c.args.name.now) c.self.view_is
