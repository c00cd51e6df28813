use Rattle.std.proofs.Common.{◌≡◌, ℕ, true, false, cond, Some, List, [], ◌∷◌, ◌++◌, length, ap, sym, subst, ◌∙◌, rules}
use denote.Ref.{Bor}
use Rattle.std.specs.Option.{is_some}
use Rattle.std.proofs.lemmas.Map.Text.{btree_map_updates_str}
use Rattle.res_base.specs.Names.{text_eq}
use Rattle.property_text.specs.Values.{HasPlaces, seen, value_in, with_value}
use Rattle.property_text.proofs.ValueLemmas.{found, known_by, new_pair, old_pair, places_push, seen_length, seen_push}
use Rattle.property_text.proofs.values.Values.with.Goals as goal

pub returns-then-contains_key : goal.returns-then-contains_key
returns-then-contains_key c =
    let pairs = seen c.self.inside.pairs.items in
    let old : is_some (value_in pairs c.args.name.now) ≡ true = sym (known_by pairs c.self.inside.places c.args.name.now c.self.invariant) ∙ sym c.contains_key.ensures ∙ c.if-contains_key.true in
    old_pair pairs c.args.name.now c.args.value.now old ∙ ap (λ pairs. with_value pairs c.args.name.now c.args.value.now) c.self.view_is

pub invariant_of-result-2 : goal.invariant_of-result-2
invariant_of-result-2 c =
    let name = c.args.name.now in
    let pairs = seen c.self.inside.pairs.items in
    let places = c.self.inside.places in
    let noted = c.insert.new.self in
    let new : is_some (value_in pairs name) ≡ false = sym (known_by pairs places name c.self.invariant) ∙ sym c.contains_key.ensures ∙ c.if-contains_key.false in
    let counted : c.len.result ≡ length c.self.inside.pairs.items = search rules in
    let count : c.len.result ≡ length pairs = counted ∙ sym (seen_length c.self.inside.pairs.items) in
    let updated : (q : List ℕ) → found noted q ≡ cond (text_eq name q) (Some (length pairs)) (found places q) =
    λ q. btree_map_updates_str name places noted _ c.in_ok-insert.ensures.updates q ∙ ap (λ n. cond (text_eq name q) (Some n) (found places q)) count in
    let pushed : c.push.new.self.items ≡ c.self.inside.pairs.items ++ (c.args.name, c.args.value) ∷ [] = search rules in
    let grown : pairs ++ (name, c.args.value.now) ∷ [] ≡ seen c.push.new.self.items = sym (ap seen pushed ∙ seen_push c.self.inside.pairs.items c.args.name c.args.value) in
    subst (λ pairs. HasPlaces pairs noted) grown (places_push pairs places noted name c.args.value.now c.self.invariant new updated)

pub returns : goal.returns
returns c =
    let name = c.args.name.now in
    let pairs = seen c.self.inside.pairs.items in
    let new : is_some (value_in pairs name) ≡ false = sym (known_by pairs c.self.inside.places name c.self.invariant) ∙ sym c.contains_key.ensures ∙ c.if-contains_key.false in
    let pushed : c.push.new.self.items ≡ c.self.inside.pairs.items ++ (c.args.name, c.args.value) ∷ [] = search rules in
    ap seen pushed ∙ seen_push c.self.inside.pairs.items c.args.name c.args.value ∙ new_pair pairs name c.args.value.now new
    ∙ ap (λ pairs. with_value pairs name c.args.value.now) c.self.view_is
