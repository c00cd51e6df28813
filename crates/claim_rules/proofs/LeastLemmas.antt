-- The least of some keys is one of them, and none of them comes before it.
use Rattle.std.proofs.Common.{◌≡◌, ◌⊎◌, inl, inr, Bool, false, List, [], ◌∷◌, Some, None, refl, sym, ◌∙◌, ap, subst, rules}
use Rattle.std.specs.Prelude.{fold}
use Rattle.std.specs.declared.cmp.Ordering.{Ordering}
use Rattle.std.specs.declared.cmp.Ordering.TheVariants.{Less, Equal, Greater}
use Rattle.std.specs.Cmp.{IsTotalOrder, upto, tied_itself}
use Rattle.std.specs.Cmp.Rules.{comparing}
use Rattle.std.specs.Ordering.{is_gt, ordering_reverse}
use Rattle.std.proofs.lemmas.Option.{same_Some, none-some}
use Rattle.claim_rules.specs.Least.{by_order, lesser, least}
use Rattle.res_base.specs.Members.{Among}
use Rattle.res_base.specs.Names.{key_cmp}
use Rattle.res_base.specs.declared.key.FileKey.{FileKey}

one_of : (o : Ordering) (a b : FileKey) → (by_order o a b ≡ a) ⊎ (by_order o a b ≡ b)
one_of Less a b = inl refl
one_of Equal a b = inl refl
one_of Greater a b = inr refl

fold_among : (key : FileKey) (keys : List FileKey) → Among (fold lesser key keys) (key ∷ keys)
fold_among key [] = inl refl
fold_among key (one ∷ keys) =
    elim (fold_among (lesser key one) keys) [
      | inl e ↦ elim (one_of (key_cmp key one) key one)
          [ inl first ↦ inl (e ∙ first) | inr second ↦ inr (inl (e ∙ second)) ]
      | inr m ↦ inr (inr m)
    ]

pub least_among : (keys : List FileKey) (key : FileKey) → least keys ≡ Some key → Among key keys
least_among [] key e = absurd (none-some key e)
least_among (one ∷ keys) key e =
    subst (λ k. Among k (one ∷ keys)) (same_Some (fold lesser one keys) key e) (fold_among one keys)

pub no_least : (keys : List FileKey) → least keys ≡ None → (key : FileKey) → Among key keys → ⊥
no_least [] e key m = m
no_least (one ∷ keys) e key m = none-some (fold lesser one keys) (sym e)

none_among : (keys : List FileKey) → ((key : FileKey) → Among key keys → ⊥) → keys ≡ []
none_among [] never = refl
none_among (key ∷ keys) never = absurd (never key (inl refl))

pub no_keys : (keys : List FileKey) → least keys ≡ None → keys ≡ []
no_keys keys e = none_among keys (no_least keys e)

-- ---- no key comes before the least

key_order : IsTotalOrder key_cmp
key_order = search (comparing, rules)

-- the first does not come after the second
abbrev NotAfter : FileKey → FileKey → Type 0
NotAfter a b = is_gt (key_cmp a b) ≡ false

itself : (a : FileKey) → NotAfter a a
itself a = ap is_gt (tied_itself key_order a)

turned : (a b : FileKey) → key_cmp a b ≡ Greater → NotAfter b a
turned a b e = ap is_gt (key_order.antisymm b a ∙ ap ordering_reverse e)

not_after_first : (a b : FileKey) → NotAfter (lesser a b) a
not_after_first a b = by (key_cmp a b) refl
  where
    by : (o : Ordering) → key_cmp a b ≡ o → NotAfter (by_order o a b) a
    by Less e = itself a
    by Equal e = itself a
    by Greater e = turned a b e

not_after_second : (a b : FileKey) → NotAfter (lesser a b) b
not_after_second a b = by (key_cmp a b) refl
  where
    by : (o : Ordering) → key_cmp a b ≡ o → NotAfter (by_order o a b) b
    by Less e = ap is_gt e
    by Equal e = ap is_gt e
    by Greater e = itself b

fold_lowest : (key : FileKey) (keys : List FileKey) (one : FileKey) → Among one (key ∷ keys)
    → NotAfter (fold lesser key keys) one
fold_lowest key [] one (inl is) = subst (NotAfter key) (sym is) (itself key)
fold_lowest key [] one (inr m) = absurd m
fold_lowest key (x ∷ keys) one (inl is) =
    subst (NotAfter (fold lesser (lesser key x) keys)) (sym is)
    (upto key_order (fold lesser (lesser key x) keys) (lesser key x) key
    (fold_lowest (lesser key x) keys (lesser key x) (inl refl)) (not_after_first key x))
fold_lowest key (x ∷ keys) one (inr (inl is)) =
    subst (NotAfter (fold lesser (lesser key x) keys)) (sym is)
    (upto key_order (fold lesser (lesser key x) keys) (lesser key x) x
    (fold_lowest (lesser key x) keys (lesser key x) (inl refl)) (not_after_second key x))
fold_lowest key (x ∷ keys) one (inr (inr m)) = fold_lowest (lesser key x) keys one (inr m)

pub lowest : (keys : List FileKey) (key one : FileKey) → least keys ≡ Some key → Among one keys → NotAfter key one
lowest [] key one e m = absurd m
lowest (x ∷ keys) key one e m =
    subst (λ k. NotAfter k one) (same_Some (fold lesser x keys) key e) (fold_lowest x keys one m)
