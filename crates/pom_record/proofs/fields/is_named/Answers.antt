use Rattle.std.proofs.Common.{◌≡◌, refl, ap, sym, ◌∙◌, Some, None}
use Rattle.std.specs.Str.{bytes_eq}
use Rattle.case_table.specs.Numbers.{name_at}
use Rattle.case_table.specs.Rows.{value_at}
use Rattle.pom_record.specs.FieldNames.{name_rows}
use Rattle.pom_record.proofs.fields.is_named.Goals as goal

pub returns-in-Some : goal.returns-in-Some
returns-in-Some c =
    let some : value_at c.as_str.result.now name_rows ≡ Some c.in-Some.found.now =
    ap (value_at c.as_str.result.now) (sym c.requires.names) ∙ sym c.in-Some.ensures.value in
    c.names_numbered.ensures.told name_rows refl c.as_str.result.now c.in-Some.found.now c.args.number
    c.requires.number some
    ∙ ap (λ name. bytes_eq name (name_at name_rows c.args.number)) c.as_str.ensures

pub returns-in-None : goal.returns-in-None
returns-in-None c =
    let none : value_at c.as_str.result.now name_rows ≡ None = ap (value_at c.as_str.result.now) (sym c.requires.names)
    ∙ sym c.in-None.ensures.value in
    sym (c.names_numbered.ensures.absent name_rows refl c.as_str.result.now c.args.number c.requires.number none)
    ∙ ap (λ name. bytes_eq name (name_at name_rows c.args.number)) c.as_str.ensures
