-- A table of the numbers of modules, and the modules.
use Rattle.std.proofs.Common.{◌≡◌, ℕ, suc, ◌+◌, arith, Bool, true, false, cond, ◌&&◌, ◌||◌, Option, None, Some, List, [], ◌∷◌, ◌++◌, length, refl, sym, ◌∙◌, ap, rules}
use Rattle.std.specs.Cmp.{IsEquivalence}
use Rattle.std.specs.Cmp.Rules.{comparing}
use Rattle.std.specs.BTreeMap.{BTreeMap, Updates, get}
use Rattle.std.specs.Cmp.Lexicographic.{texts_ties}
use Rattle.std.specs.List.{list_any, position_from}
use Rattle.std.specs.Option.{is_some}
use Rattle.std.specs.Ordering.{is_eq, ordering_then}
use Rattle.std.specs.declared.cmp.Ordering.{Ordering}
use Rattle.std.specs.declared.cmp.Ordering.TheVariants.{Less, Equal, Greater}
use Rattle.res_base.specs.Names.{module_cmp, module_eq}
use Rattle.res_base.specs.declared.coord.Module.{Module}
use Rattle.round_core.specs.Tables.{HasNumbers, has, number_in, once}

equal_modules : IsEquivalence module_eq
equal_modules = search (comparing, rules)

both : (x y : Ordering) → is_eq (ordering_then x y) ≡ (is_eq x && is_eq y)
both Less y = refl
both Equal y = refl
both Greater y = refl

two : (a b : Bool) (x y : Ordering) → a ≡ is_eq x → b ≡ is_eq y → (a && b) ≡ is_eq (ordering_then x y)
two a b x y e f = rw (e, f) (sym (both x y))

-- modules are equal where neither comes first
module_ties : (a b : Module) → module_eq a b ≡ is_eq (module_cmp a b)
module_ties a b = two _ _ _ _ (texts_ties a.org b.org) (texts_ties a.name b.name)

abbrev number_from : Module → ℕ → List Module → Option ℕ
number_from m start names = position_from (module_eq m) start names

known_from : (m : Module) (start : ℕ) (names : List Module) → is_some (number_from m start names) ≡ has names m
known_from m start [] = refl
known_from m start (one ∷ names) = at (module_eq m one) (known_from m (start + 1) names)
  where
    at : (b : Bool) → is_some (number_from m (start + 1) names) ≡ has names m
        → is_some (cond b (Some start) (number_from m (start + 1) names)) ≡ (b || has names m)
    at true rest = refl
    at false rest = rest

pub known_by : (names : List Module) (numbers : BTreeMap Module ℕ) (m : Module) → HasNumbers names numbers
    → is_some (get module_cmp numbers m) ≡ has names m
known_by names numbers m numbered = ap is_some (numbered m) ∙ known_from m 0 names

abbrev otherwise : Option ℕ → Option ℕ → Option ℕ
otherwise None other = other
otherwise (Some number) other = Some number

-- the number of a module, or else that of one more
abbrev number_with : Module → ℕ → List Module → Module → Option ℕ
number_with m start names last =
    otherwise (number_from m start names) (cond (module_eq m last) (Some (start + length names)) None)

number_push : (m : Module) (start : ℕ) (names : List Module) (last : Module)
    → number_from m start (names ++ last ∷ []) ≡ number_with m start names last
number_push m start [] last = ap (λ n. cond (module_eq m last) (Some n) None) (omega arith)
number_push m start (one ∷ names) last = at (module_eq m one) (number_push m (start + 1) names last)
  where
    at : (b : Bool) → number_from m (start + 1) (names ++ last ∷ []) ≡ number_with m (start + 1) names last
        → cond b (Some start) (number_from m (start + 1) (names ++ last ∷ []))
        ≡ otherwise (cond b (Some start) (number_from m (start + 1) names))
        (cond (module_eq m last) (Some (start + suc (length names))) None)
    at true later = refl
    at false later =
        let moved : start + 1 + length names ≡ start + suc (length names) = omega arith in
        let is = λ (n : ℕ). cond (module_eq m last) (Some n) None in
        later ∙ ap (λ n. otherwise (number_from m (start + 1) names) (is n)) moved

number_like : (a b : Module) (start : ℕ) (names : List Module) → module_eq a b ≡ true
    → number_from a start names ≡ number_from b start names
number_like a b start [] same = refl
number_like a b start (one ∷ names) same =
    rw (equal_modules.congr a b one same, number_like a b (start + 1) names same) refl

-- a new module, put last
pub numbers_put : (names : List Module) (before after : BTreeMap Module ℕ) (m : Module) → HasNumbers names before
    → has names m ≡ false → Updates module_cmp before after m (Some (length names)) → HasNumbers (names ++ m ∷ []) after
numbers_put names before after m numbered new updated q =
    let count = length names in
    updated.0 q ∙ ap (λ tied. cond tied (Some count) (get module_cmp before q)) (sym (module_ties m q))
    ∙ ap (cond (module_eq m q) (Some count)) (numbered q)
    ∙ at (module_eq m q) refl ∙ sym (number_push q 0 names m)
  where
    plain : (number : Option ℕ) → number ≡ otherwise number None
    plain None = refl
    plain (Some number) = refl

    none_of : (number : Option ℕ) → is_some number ≡ false → number ≡ None
    none_of None e = refl
    none_of (Some number) e = cc

    at : (b : Bool) → module_eq m q ≡ b → cond b (Some (length names)) (number_from q 0 names)
        ≡ otherwise (number_from q 0 names) (cond (module_eq q m) (Some (0 + length names)) None)
    at true same =
        rw (
          sym (number_like m q 0 names same) ∙ none_of (number_from m 0 names) (known_from m 0 names ∙ new),
          equal_modules.symm q m,
          same,
        ) (ap Some (omega arith))
    at false other = rw (equal_modules.symm q m, other) (plain (number_from q 0 names))

pub new_module : (names : List Module) (m : Module) → has names m ≡ false → names ++ m ∷ [] ≡ once module_eq names m
new_module names m new = rw new refl

pub old_module : (names : List Module) (m : Module) → has names m ≡ true → names ≡ once module_eq names m
old_module names m old = rw old refl
