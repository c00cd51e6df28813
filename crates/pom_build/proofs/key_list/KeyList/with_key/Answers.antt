use Rattle.std.proofs.Common.{◌≡◌, true, false, Some, [], ◌∷◌, ◌++◌, ap, sym, subst, ◌∙◌, rules}
use Rattle.std.specs.BTreeMap.{Updates}
use Rattle.std.specs.List.{list_any}
use Rattle.res_base.specs.Names.{key_cmp, key_eq}
use Rattle.pom_build.specs.Imports.{with_key}
use Rattle.pom_build.specs.KeyLists.{HasKeys}
use Rattle.pom_build.proofs.KeyLemmas.{keys_push, new_key, old_key}
use Rattle.pom_build.proofs.key_list.KeyList.with_key.Goals as goal

pub returns-then-contains_key : goal.returns-then-contains_key
returns-then-contains_key c =
    let old : list_any (key_eq c.args.key) c.self.inside.keys ≡ true = sym (c.self.invariant c.args.key) ∙ sym c.contains_key.ensures ∙ c.if-contains_key.true in
    old_key c.self.inside.keys c.args.key old ∙ ap (λ keys. with_key keys c.args.key) c.self.view_is

pub invariant_of-result-2 : goal.invariant_of-result-2
invariant_of-result-2 c =
    let noted : Updates key_cmp c.self.inside.among c.insert.new.self c.args.key (Some tt) = search rules in
    let pushed : c.self.inside.keys ++ c.args.key ∷ [] ≡ c.push.new.self = search rules in
    subst (λ keys. HasKeys keys c.insert.new.self) pushed (keys_push c.self.inside.keys c.self.inside.among c.insert.new.self c.args.key c.self.invariant noted)

pub returns : goal.returns
returns c =
    let new : list_any (key_eq c.args.key) c.self.inside.keys ≡ false = sym (c.self.invariant c.args.key) ∙ sym c.contains_key.ensures ∙ c.if-contains_key.false in
    let pushed : c.push.new.self ≡ c.self.inside.keys ++ c.args.key ∷ [] = search rules in
    pushed ∙ new_key c.self.inside.keys c.args.key new ∙ ap (λ keys. with_key keys c.args.key) c.self.view_is
