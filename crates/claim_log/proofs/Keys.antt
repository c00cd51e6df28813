-- Keys in tables: a tie by their order is equality.
use Rattle.std.proofs.Common.{◌≡◌, true, cond, Option, refl, sym, ◌∙◌, ap, rules}
use Rattle.std.specs.BTreeMap.{BTreeMap, Updates, get, is_at}
use Rattle.std.specs.Cmp.Rules.{comparing}
use Rattle.std.specs.Prelude.{◌↔◌}
use Rattle.std.specs.declared.cmp.Ordering.TheVariants.{Equal}
use Rattle.res_base.specs.Names.{key_eq, key_cmp}
use Rattle.res_base.specs.declared.key.FileKey.{FileKey}

abbrev pub Decided : Type 0
Decided = (a b : FileKey) → (key_eq a b ≡ true) ↔ (a ≡ b)

pub key_ties : (a b : FileKey) → key_eq a b ≡ is_at (key_cmp a) b
key_ties = search (comparing, rules)

pub itself : Decided → (a : FileKey) → key_eq a a ≡ true
itself decided a = (decided a a).1 refl

pub tied : Decided → (a b : FileKey) → key_cmp a b ≡ Equal → a ≡ b
tied decided a b e = (decided a b).0 (key_ties a b ∙ rw e refl)

-- what an updated table has at each key
pub updated : {X : Type 0} (before after : BTreeMap FileKey X) (key : FileKey) (w : Option X)
    → Updates key_cmp before after key w → (q : FileKey)
    → get key_cmp after q ≡ cond (key_eq key q) w (get key_cmp before q)
updated before after key w u q = u.0 q ∙ ap (λ b. cond b w (get key_cmp before q)) (sym (key_ties key q))

-- by cases of whether it is the key
pub updated_at : {X : Type 0} (before after : BTreeMap FileKey X) (key : FileKey) (w : Option X)
    → Updates key_cmp before after key w → Decided → get key_cmp after key ≡ w
updated_at before after key w u decided = updated before after key w u key ∙ rw (itself decided key) refl
