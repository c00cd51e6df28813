use Rattle.std.proofs.Common.{◌≡◌, ◌+◌, ◌-◌, refl, ap, sym, subst, ◌∙◌, Some, None, arith}
use Rattle.case_table.specs.Rows.{value_at}
use Rattle.pom_grammar.specs.declared.tree.Tree.{Tree, out-Tree}
use Rattle.pom_record.specs.FieldNames.{name_rows}
use Rattle.pom_record.proofs.Sorted.{IsSortedFrom, unsorted, passed, placed}
use Rattle.pom_record.proofs.fields.places_of.Goals as goal

pub loop-at-init : goal.loop-at-init
loop-at-init c = unsorted c.args.children.now

pub bounds-places-number : goal.bounds-places-number
bounds-places-number c =
    let some : value_at c.as_str.result.now name_rows ≡ Some c.in-Some.number.now =
    ap (value_at c.as_str.result.now) (sym c.requires) ∙ sym c.in-Some.ensures.value in
    (c.names_numbered.ensures.named name_rows refl c.as_str.result.now c.in-Some.number.now some).0

pub offset_bounds-places-number : goal.offset_bounds-places-number
offset_bounds-places-number c =
    let some : value_at c.as_str.result.now name_rows ≡ Some c.in-Some.number.now =
    ap (value_at c.as_str.result.now) (sym c.requires) ∙ sym c.in-Some.ensures.value in
    omega (arith, (c.names_numbered.ensures.named name_rows refl c.as_str.result.now c.in-Some.number.now some).0)

pub loop-at-preserved-in-Some : goal.loop-at-preserved-in-Some
loop-at-preserved-in-Some c =
    let child : Tree = c.index-children-at.result in
    let name : (out-Tree child).name ≡ c.as_str.result.now = ap (λ t. (out-Tree t).name) c.index-children-at.is
    ∙ sym c.as_str.ensures in
    let some : value_at (out-Tree child).name name_rows ≡ Some c.in-Some.number.now =
    ap (λ n. value_at n name_rows) name ∙ ap (value_at c.as_str.result.now) (sym c.requires)
    ∙ sym c.in-Some.ensures.value in
    let before : c.loop-at.at ≡ c.loop-at.at - 1 + 1 = omega (arith, c.loop-at-test.true) in
    placed (c.names_numbered.ensures.placed name_rows refl)
    (c.names_numbered.ensures.named name_rows refl) c.args.children.now c.loop-at.places
    (c.loop-at.at - 1) child c.in-Some.number.now
    (subst (IsSortedFrom c.args.children.now c.loop-at.places) before c.loop-at.invariant) c.index-children-at.is
    some

pub loop-at-preserved : goal.loop-at-preserved
loop-at-preserved c =
    let child : Tree = c.index-children-at.result in
    let name : (out-Tree child).name ≡ c.as_str.result.now = ap (λ t. (out-Tree t).name) c.index-children-at.is
    ∙ sym c.as_str.ensures in
    let none : value_at (out-Tree child).name name_rows ≡ None = ap (λ n. value_at n name_rows) name
    ∙ ap (value_at c.as_str.result.now) (sym c.requires) ∙ sym c.in_default.ensures.value in
    let before : c.loop-at.at ≡ c.loop-at.at - 1 + 1 = omega (arith, c.loop-at-test.true) in
    passed (c.names_numbered.ensures.placed name_rows refl) c.args.children.now c.loop-at.places
    (c.loop-at.at - 1) child
    (subst (IsSortedFrom c.args.children.now c.loop-at.places) before c.loop-at.invariant) c.index-children-at.is
    none
