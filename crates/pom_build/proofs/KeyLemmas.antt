-- A list of keys, and a table of the same keys.
use Rattle.std.proofs.Common.{◌≡◌, Bool, true, false, cond, ◌||◌, Option, Some, List, [], ◌∷◌, ◌++◌, refl, sym, ◌∙◌, ap, is_some, rules}
use Rattle.std.specs.BTreeMap.{BTreeMap, Updates, get}
use Rattle.std.specs.Cmp.Rules.{comparing}
use Rattle.std.specs.List.{list_any}
use Rattle.std.specs.Ordering.{eq_by_cmp}
use Rattle.std.proofs.lemmas.List.Folds.{list_any-append}
use Rattle.res_base.specs.Names.{key_cmp, key_eq}
use Rattle.res_base.specs.declared.key.FileKey.{FileKey}
use Rattle.pom_build.specs.Imports.{with_key}
use Rattle.pom_build.specs.KeyLists.{HasKeys}
use Rattle.pom_build.proofs.Told.{equal_keys}

key_ties : (a b : FileKey) → key_eq a b ≡ eq_by_cmp key_cmp a b
key_ties = search (comparing, rules)

some_or : (b : Bool) (o : Option (Unit {0})) → is_some (cond b (Some tt) o) ≡ (b || is_some o)
some_or true o = refl
some_or false o = refl

turned : (a b : Bool) → (a || b) ≡ (b || (a || false))
turned true true = refl
turned true false = refl
turned false true = refl
turned false false = refl

pub keys_push : (keys : List FileKey) (before after : BTreeMap FileKey (Unit {0})) (key : FileKey) → HasKeys keys before → Updates key_cmp before after key (Some tt)
    → HasKeys (keys ++ key ∷ []) after
keys_push keys before after key has updated q =
    ap is_some (updated.0 q ∙ ap (λ tied. cond tied (Some tt) (get key_cmp before q)) (sym (key_ties key q)))
    ∙ some_or (key_eq key q) (get key_cmp before q)
    ∙ ap (λ b. key_eq key q || b) (has q)
    ∙ ap (λ b. b || list_any (key_eq q) keys) (equal_keys.symm key q)
    ∙ turned (key_eq q key) (list_any (key_eq q) keys)
    ∙ sym (list_any-append (key_eq q) keys (key ∷ []))

pub no_keys_in : (among : BTreeMap FileKey (Unit {0})) → among.entries ≡ [] → HasKeys [] among
no_keys_in among none key = rw none refl

pub new_key : (keys : List FileKey) (key : FileKey) → list_any (key_eq key) keys ≡ false → keys ++ key ∷ [] ≡ with_key keys key
new_key keys key e = rw e refl

pub old_key : (keys : List FileKey) (key : FileKey) → list_any (key_eq key) keys ≡ true → keys ≡ with_key keys key
old_key keys key e = rw e refl
