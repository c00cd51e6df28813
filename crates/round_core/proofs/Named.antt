-- Modules that are numbered in the order in which they come.
use Rattle.std.proofs.Common.{◌≡◌, ◌<◌, ◌≤◌, ◌+◌, ℕ, zero, suc, Bool, true, false, cond, ◌||◌, Option, None, Some, List, [], ◌∷◌, ◌++◌, length, refl, sym, ◌∙◌, ap, subst, arith}
use Rattle.std.specs.Prelude.{IsSome}
use Rattle.std.specs.List.{list_any, position_from}
use Rattle.res_base.specs.Names.{module_eq}
use Rattle.res_base.specs.declared.coord.Module.{Module}
use Rattle.live_walk.specs.Numbers.{AreDistinct, AreOther, module_at}
use Rattle.live_walk.proofs.Modules.{module_itself, module_same}
use Rattle.round_core.specs.Tables.{has, named, number_in, once}

-- ---- places

pub place_in_range : (test : Module → Bool) (i : ℕ) (names : List Module) (place : ℕ)
    → position_from test i names ≡ Some place → place < i + length names
place_in_range test i [] place h = absurd (cc)
place_in_range test i (k ∷ names) place h = by (place_in_range test (i + 1) names place) (test k) h
  where
    by : (position_from test (i + 1) names ≡ Some place → place < i + 1 + length names) → (t : Bool)
        → cond t (Some i) (position_from test (i + 1) names) ≡ Some place → place < i + suc (length names)
    by later true e = let q : i ≡ place = cc in omega (arith, q)
    by later false e = let l : place < i + 1 + length names = later e in omega (arith, l)

pub place_from : (test : Module → Bool) (i : ℕ) (names : List Module) (place : ℕ)
    → position_from test i names ≡ Some place → i ≤ place
place_from test i [] place h = absurd (cc)
place_from test i (k ∷ names) place h = by (place_from test (i + 1) names place) (test k) h
  where
    by : (position_from test (i + 1) names ≡ Some place → i + 1 ≤ place) → (t : Bool)
        → cond t (Some i) (position_from test (i + 1) names) ≡ Some place → i ≤ place
    by later true e = let q : i ≡ place = cc in omega (arith, q)
    by later false e = let l : i + 1 ≤ place = later e in omega (arith, l)

-- the module at the place that was found
pub at_place : (m : Module) (i : ℕ) (names : List Module) (place : ℕ) → position_from (module_eq m) i names
    ≡ Some (i + place) → module_at names place ≡ m
at_place m i [] place h = absurd (cc)
at_place m i (k ∷ names) place h =
    by (at_place m (i + 1) names) (place_from (module_eq m) (i + 1) names) place (module_eq m k) refl h
  where
    by : ((place : ℕ) → position_from (module_eq m) (i + 1) names ≡ Some (i + 1 + place) → module_at names place ≡ m)
        → ((place : ℕ) → position_from (module_eq m) (i + 1) names ≡ Some place → i + 1 ≤ place)
        → (place : ℕ) (t : Bool) → module_eq m k ≡ t → cond t (Some i) (position_from (module_eq m) (i + 1) names)
        ≡ Some (i + place) → module_at (k ∷ names) place ≡ m
    by later low zero true e q = sym (module_same m k e)
    by later low (suc place) true e q = absurd (let s : i ≡ i + suc place = cc in omega (arith, s))
    by later low zero false e q = absurd (let l : i + 1 ≤ i + 0 = low (i + 0) q in omega (arith, l))
    by later low (suc place) false e q = later place (q ∙ ap Some (omega arith))

pub some_place : (test : Module → Bool) (i : ℕ) (names : List Module) → list_any test names ≡ true
    → IsSome (position_from test i names)
some_place test i [] h = absurd (cc)
some_place test i (k ∷ names) h = by (some_place test (i + 1) names) (test k) h
  where
    by : (list_any test names ≡ true → IsSome (position_from test (i + 1) names)) → (t : Bool)
        → (t || list_any test names) ≡ true → IsSome (cond t (Some i) (position_from test (i + 1) names))
    by later true e = refl
    by later false e = later e

-- ---- one module and another

not_other : (m k : Module) → module_eq k m ≡ false → module_eq m k ≡ false
not_other m k h = by (module_eq m k) refl
  where
    by : (t : Bool) → module_eq m k ≡ t → module_eq m k ≡ false
    by false e = e
    by true e =
        absurd (let q : m ≡ k = module_same m k e in let d : module_eq k m ≡ true = rw q (module_itself k) in cc)

pub same_either_way : (m k : Module) → module_eq m k ≡ module_eq k m
same_either_way m k = by (module_eq k m) refl
  where
    by : (t : Bool) → module_eq k m ≡ t → module_eq m k ≡ t
    by false e = not_other m k e
    by true e = let q : k ≡ m = module_same k m e in rw q (module_itself m)

-- ---- which modules a table has

or_true : (s t : Bool) → s ≡ true → (s || t) ≡ true
or_true s t h = rw h refl

or_later : (s t : Bool) → t ≡ true → (s || t) ≡ true
or_later true t h = refl
or_later false t h = h

pub has-append : (names more : List Module) (m : Module) → has (names ++ more) m ≡ (has names m || has more m)
has-append [] more m = refl
has-append (k ∷ names) more m = by (has-append names more m) (module_eq m k)
  where
    by : has (names ++ more) m ≡ (has names m || has more m) → (t : Bool) → (t || has (names ++ more) m)
        ≡ ((t || has names m) || has more m)
    by later true = refl
    by later false = later

pub has_once : (names : List Module) (k m : Module) → has names m ≡ true → has (once module_eq names k) m ≡ true
has_once names k m h = by (list_any (module_eq k) names)
  where
    by : (t : Bool) → has (cond t names (names ++ k ∷ [])) m ≡ true
    by true = h
    by false = has-append names (k ∷ []) m ∙ or_true (has names m) (has (k ∷ []) m) h

pub once_has : (names : List Module) (k : Module) → has (once module_eq names k) k ≡ true
once_has names k = by (list_any (module_eq k) names) refl
  where
    by : (t : Bool) → list_any (module_eq k) names ≡ t → has (cond t names (names ++ k ∷ [])) k ≡ true
    by true e = e
    by false e = has-append names (k ∷ []) k ∙ or_later (has names k) (has (k ∷ []) k) (rw (module_itself k) refl)

pub has_named : (names more : List Module) (m : Module) → has names m ≡ true → has (named names more) m ≡ true
has_named names [] m h = h
has_named names (k ∷ more) m h = has_named (once module_eq names k) more m (has_once names k m h)

other_append : (n k : Module) (names : List Module) → AreOther n names → module_eq n k ≡ false
    → AreOther n (names ++ k ∷ [])
other_append n k [] d e = (e, tt)
other_append n k (m ∷ names) d e = (d.0, other_append n k names d.1 e)

distinct_append : (names : List Module) (k : Module) → AreDistinct names → list_any (module_eq k) names ≡ false
    → AreDistinct (names ++ k ∷ [])
distinct_append [] k d h = (tt, tt)
distinct_append (n ∷ names) k d h = by (distinct_append names k d.1) (module_eq k n) refl h
  where
    by : (list_any (module_eq k) names ≡ false → AreDistinct (names ++ k ∷ [])) → (t : Bool) → module_eq k n ≡ t
        → (t || list_any (module_eq k) names) ≡ false → AreDistinct (n ∷ (names ++ k ∷ []))
    by later true e g = absurd (cc)
    by later false e g = (other_append n k names d.0 (not_other n k e), later g)

pub distinct_once : (names : List Module) (k : Module) → AreDistinct names → AreDistinct (once module_eq names k)
distinct_once names k d = by (list_any (module_eq k) names) refl
  where
    by : (t : Bool) → list_any (module_eq k) names ≡ t → AreDistinct (cond t names (names ++ k ∷ []))
    by true e = d
    by false e = distinct_append names k d e

pub distinct_named : (names more : List Module) → AreDistinct names → AreDistinct (named names more)
distinct_named names [] d = d
distinct_named names (k ∷ more) d = distinct_named (once module_eq names k) more (distinct_once names k d)

-- what comes first stays first
pub record Extends (names longer : List Module) : Type 0 where
  pub more : List Module
  pub is : longer ≡ names ++ more

pub extends_itself : (names : List Module) → Extends names names
extends_itself names = record { more = []; is = sym (end names) }
  where
    end : (xs : List Module) → xs ++ [] ≡ xs
    end [] = refl
    end (x ∷ xs) = ap (λ z. x ∷ z) (end xs)

append_assoc : (xs ys zs : List Module) → (xs ++ ys) ++ zs ≡ xs ++ (ys ++ zs)
append_assoc [] ys zs = refl
append_assoc (x ∷ xs) ys zs = ap (λ z. x ∷ z) (append_assoc xs ys zs)

pub extends-trans : (a b c : List Module) → Extends a b → Extends b c → Extends a c
extends-trans a b c f g =
    record { more = f.more ++ g.more; is = g.is ∙ ap (λ z. z ++ g.more) f.is ∙ append_assoc a f.more g.more }

extends_once : (names : List Module) (k : Module) → Extends names (once module_eq names k)
extends_once names k = by (list_any (module_eq k) names)
  where
    by : (t : Bool) → Extends names (cond t names (names ++ k ∷ []))
    by true = extends_itself names
    by false = record { more = k ∷ []; is = refl }

pub extends_named : (names more : List Module) → Extends names (named names more)
extends_named names [] = extends_itself names
extends_named names (k ∷ more) =
    extends-trans names (once module_eq names k) (named (once module_eq names k) more) (extends_once names k)
    (extends_named (once module_eq names k) more)

-- distinct modules are numbered as they stand
other_than : (names : List Module) (k : Module) (more : List Module) → AreDistinct (names ++ k ∷ more)
    → list_any (module_eq k) names ≡ false
other_than [] k more d = refl
other_than (n ∷ names) k more d = let e : module_eq k n ≡ false =
    not_other k n (first names d.0) in rw e (other_than names k more d.1)
  where
    first : (names : List Module) → AreOther n (names ++ k ∷ more) → module_eq n k ≡ false
    first [] o = o.0
    first (m ∷ names) o = first names o.1

pub named_distinct : (names more : List Module) → AreDistinct (names ++ more) → named names more ≡ names ++ more
named_distinct names [] d = let e : Extends names names = extends_itself names in sym (end names)
  where
    end : (xs : List Module) → xs ++ [] ≡ xs
    end [] = refl
    end (x ∷ xs) = ap (λ z. x ∷ z) (end xs)
named_distinct names (k ∷ more) d =
    let new : once module_eq names k ≡ names ++ k ∷ [] =
    ap (λ t. cond t names (names ++ k ∷ [])) (other_than names k more d) in
    let same : (names ++ k ∷ []) ++ more ≡ names ++ k ∷ more = append_assoc names (k ∷ []) more in
    ap (λ z. named z more) new ∙ named_distinct (names ++ k ∷ []) more (subst (λ z. AreDistinct z) (sym same) d) ∙ same

-- ---- all names

pub has_each : (names more : List Module) (place : ℕ) → place < length more
    → has (named names more) (module_at more place) ≡ true
has_each names [] place h = absurd (omega (arith, h))
has_each names (k ∷ more) zero h = has_named (once module_eq names k) more k (once_has names k)
has_each names (k ∷ more) (suc place) h = has_each (once module_eq names k) more place (omega (arith, h))
