-- The greatest version is one of them, and none is greater.
use Rattle.std.proofs.Common.{◌≡◌, ℕ, zero, suc, Bool, true, false, List, [], ◌∷◌, Option, Some, None, refl, sym, ◌∙◌, ap, subst, arith}
use Rattle.std.specs.Prelude.{fold, Contains, if◌then◌else◌}
use Rattle.std.specs.declared.cmp.Ordering.{Ordering}
use Rattle.std.specs.declared.cmp.Ordering.TheVariants.{Less, Equal, Greater}
use Rattle.std.specs.Ordering.{is_lt, is_gt, ordering_reverse}
use Rattle.std.specs.Cmp.{upto, tied_itself}
use Rattle.version_order.specs.Ranks.{full_cmp}
use Rattle.version_order.specs.Order.{full_total}
use Rattle.reconcile_rules.specs.Greatest.{greater_of, greatest, IsGreatest}
use Rattle.reconcile_rules.proofs.Members.{first_member, later_member}

lt_turned : (p q : Ordering) → p ≡ ordering_reverse q → is_lt p ≡ is_gt q
lt_turned p Less e = ap is_lt e
lt_turned p Equal e = ap is_lt e
lt_turned p Greater e = ap is_lt e

lt_once : (p : Ordering) → is_lt p ≡ true → is_gt p ≡ false
lt_once Less e = refl
lt_once Equal e = refl
lt_once Greater e = sym e

turned : (a b : List ℕ) → is_lt (full_cmp a b) ≡ is_gt (full_cmp b a)
turned a b = lt_turned (full_cmp a b) (full_cmp b a) (full_total.antisymm a b)

-- not less goes on
not_less : (a b c : List ℕ) → is_lt (full_cmp b a) ≡ false → is_lt (full_cmp c b) ≡ false → is_lt (full_cmp c a) ≡ false
not_less a b c p q = turned c a ∙ upto full_total a b c (sym (turned b a) ∙ p) (sym (turned c b) ∙ q)

not_less_itself : (a : List ℕ) → is_lt (full_cmp a a) ≡ false
not_less_itself a = ap is_lt (tied_itself full_total a)

record IsGreatestFrom (best : List ℕ) (xs : List (List ℕ)) (v : List ℕ) : Type 0 where
  pub member : Contains (best ∷ xs) v
  pub above : is_lt (full_cmp v best) ≡ false
  pub none_greater : (w : List ℕ) → Contains xs w → is_lt (full_cmp v w) ≡ false

abbrev Found : List ℕ → List (List ℕ) → Type 0
Found best xs = (v : List ℕ) × (fold greater_of (Some best) xs ≡ Some v) × IsGreatestFrom best xs v

found : (best : List ℕ) (xs : List (List ℕ)) → Found best xs
found best [] =
    (best, refl, record { member = first_member best []; above = not_less_itself best; none_greater = none })
  where
    none : (w : List ℕ) → Contains [] w → is_lt (full_cmp best w) ≡ false
    none w (k, lt, e) = absurd (omega (arith, lt))
found best (x ∷ xs) = by (is_lt (full_cmp best x)) refl (λ b. found b xs)
  where
    members : (b v : List ℕ) → Contains (best ∷ (x ∷ xs)) b → Contains (b ∷ xs) v → Contains (best ∷ (x ∷ xs)) v
    members b v has (zero, lt, e) = subst (Contains (best ∷ (x ∷ xs))) e has
    members b v has (suc k, lt, e) = later_member best (x ∷ xs) v (later_member x xs v (k, omega (arith, lt), e))

    each : (v : List ℕ) → is_lt (full_cmp v x) ≡ false → ((w : List ℕ) → Contains xs w → is_lt (full_cmp v w) ≡ false)
        → (w : List ℕ) → Contains (x ∷ xs) w → is_lt (full_cmp v w) ≡ false
    each v here others w (zero, lt, e) = subst (λ y. is_lt (full_cmp v y) ≡ false) e here
    each v here others w (suc k, lt, e) = others w (k, omega (arith, lt), e)

    next : (b : List ℕ) → greater_of (Some best) x ≡ Some b → Contains (best ∷ (x ∷ xs)) b
        → is_lt (full_cmp b best) ≡ false → is_lt (full_cmp b x) ≡ false → Found b xs → Found best (x ∷ xs)
    next b is has p q (v, e, most) = (
      v,
      ap (λ s. fold greater_of s xs) is ∙ e,
      record {
        member = members b v has most.member;
        above = not_less best b v p most.above;
        none_greater = each v (not_less x b v q most.above) most.none_greater;
      },
    )

    by : (t : Bool) → is_lt (full_cmp best x) ≡ t → ((b : List ℕ) → Found b xs) → Found best (x ∷ xs)
    by true e others =
        next x (rw e refl) (later_member best (x ∷ xs) x (first_member x xs))
        (turned x best ∙ lt_once (full_cmp best x) e) (not_less_itself x) (others x)
    by false e others = next best (rw e refl) (first_member best (x ∷ xs)) (not_less_itself best) e (others best)

none_some : {A : Type 0} {x : A} → None ≡ Some x → ⊥
none_some e = cc

some_injective : {A : Type 0} {x y : A} → Some x ≡ Some y → x ≡ y
some_injective e = cc

pub greatest_is : (versions : List (List ℕ)) (version : List ℕ) → greatest versions ≡ Some version
    → IsGreatest versions version
greatest_is [] version e = absurd (none_some e)
greatest_is (x ∷ xs) version e = by (found x xs)
  where
    by : Found x xs → IsGreatest (x ∷ xs) version
    by (v, f, most) =
        subst (IsGreatest (x ∷ xs)) (some_injective (sym f ∙ e)) (record { member = most.member; none_greater = each })
      where
        each : (w : List ℕ) → Contains (x ∷ xs) w → is_lt (full_cmp v w) ≡ false
        each w (zero, lt, g) = subst (λ y. is_lt (full_cmp v y) ≡ false) g most.above
        each w (suc k, lt, g) = most.none_greater w (k, omega (arith, lt), g)

pub greatest_none : (versions : List (List ℕ)) → greatest versions ≡ None → versions ≡ []
greatest_none [] e = refl
greatest_none (x ∷ xs) e = by (found x xs)
  where
    by : Found x xs → x ∷ xs ≡ []
    by (v, f, most) = absurd (none_some (sym e ∙ f))
