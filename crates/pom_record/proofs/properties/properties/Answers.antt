use Rattle.std.proofs.Common.{◌≡◌, ℕ, ◌+◌, true, false, List, [], ◌∷◌, ◌++◌, map, fold, drop, Some, sym, ap, ◌∙◌, arith}
use Rattle.std.proofs.lemmas.List.{drop_more}
use Rattle.std.proofs.lemmas.Map.Text.{btree_map_updates_str}
use Rattle.std.specs.Map.{update}
use Rattle.std.specs.Str.{bytes_eq}
use Rattle.res_base.specs.declared.pom.Property.{Property}
use Rattle.pom_grammar.specs.declared.tree.Tree.{Tree}
use Rattle.pom_record.specs.Record.{has_name, property, put_property}
use Rattle.pom_record.proofs.PropertyLemmas.{found, knows, stays, grows, knows_more}
use Rattle.pom_record.proofs.properties.properties.Goals as goal
use Rattle.pom_record.proofs.properties.properties.Goals.{then-not-contains_key+in_ok-insert+in_ok-add, else-not-contains_key}

pub loop-child-preserved : goal.loop-child-preserved
loop-child-preserved c =
    let children : List Tree = c.args.children.now in
    let i : ℕ = c.loop-child.child-index in
    let child : Tree = c.child-item.result in
    let p : Property = property child in
    let made = c.loop-child.made in
    let names = c.loop-child.names in
    let step : drop i children ≡ child ∷ drop (i + 1) children =
    drop_more children i child (omega arith) ∙ ap (λ t. t ∷ drop (i + 1) children) (sym c.child-item.is) in
    let moved = ap (λ cs. fold put_property made (map property cs)) step in
    let told = sym (c.loop-child.invariant.1 p.name) ∙ ap (knows names) (sym c.as_str-name.ensures) in
    elim c.if-not-contains_key.branch [
      | then-not-contains_key+in_ok-insert+in_ok-add w ↦
          let absent : has_name p.name made ≡ false = told ∙ sym c.contains_key.ensures ∙ w.if-not-contains_key.true in
          let made_is : c.if-not-contains_key.made ≡ made ++ p ∷ [] = w.made-is ∙ w.in_ok-add.ensures in (
            ap (λ m. fold put_property m (map property (drop (i + 1) children))) (made_is ∙ grows made p absent)
                ∙ sym moved ∙ c.loop-child.invariant.0,
            λ q. ap (λ n. knows n q) w.names-is
                ∙ knows_more names w.insert.new.self made p q
                (btree_map_updates_str c.as_str-name.result.now names w.insert.new.self _ w.in_ok-insert.ensures.updates q
                ∙ ap (λ n. update bytes_eq (found names) n (Some tt) q) c.as_str-name.ensures)
                (c.loop-child.invariant.1 q)
                ∙ ap (has_name q) (sym made_is),
          )
      | else-not-contains_key w ↦
          let present : has_name p.name made ≡ true = told ∙ sym c.contains_key.ensures ∙ w.if-not-contains_key.false in (
            ap (λ m. fold put_property m (map property (drop (i + 1) children))) (w.made-is ∙ stays made p present)
                ∙ sym moved ∙ c.loop-child.invariant.0,
            λ q. ap (λ n. knows n q) w.names-is ∙ c.loop-child.invariant.1 q ∙ ap (has_name q) (sym w.made-is),
          )
    ]
