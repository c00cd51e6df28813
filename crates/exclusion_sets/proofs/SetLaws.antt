-- Laws of sets of exclusions.
use Rattle.std.proofs.Common.{◌≡◌, ℕ, Bool, true, false, not, cond, ◌&&◌, ◌||◌, inl, inr, List, [], ◌∷◌, filter, refl, sym, ◌∙◌, ap, true≢false}
use Rattle.std.specs.Prelude.{codes}
use Rattle.std.specs.Bool.{Decides}
use Rattle.std.specs.List.{list_all}
use Rattle.std.proofs.lemmas.Bool.Decides.{Decides-and, Decides-eqb, Decides-like}
use Rattle.std.proofs.lemmas.Slice.Eq.{slice_eq-Decides}
use Rattle.std.proofs.lemmas.Cmp.{nat_list_eq_equiv}
use Rattle.std.proofs.lemmas.List.{append-nil}
use Rattle.std.proofs.lemmas.List.Folds.{list_any-append, list_all-append}
use Rattle.res_base.specs.Names.{text_eq}
use Rattle.res_base.specs.declared.coord.Module.{Module}
use Rattle.res_base.specs.declared.pom.Exclusion.{Exclusion}
use Rattle.exclusion_sets.specs.Exclusions.{stands_for, covers, some_covers, is_excluded, is_covered, is_within, join_of, no_rules, uncovered}
use Rattle.exclusion_sets.specs.declared.excl_set.ExclSet.{ExclSet}
use Rattle.std.proofs.lemmas.Bool.{and_from, or_cases, or_left, or_right}
use Rattle.exclusion_sets.proofs.Booleans.{first, second, false_before, list_all-implies, list_any-implies}

stands_for_itself : (text : List ℕ) → stands_for text text ≡ true
stands_for_itself text = or_right (text_eq text (codes "*")) (text_eq text text) (nat_list_eq_equiv.refl text)

-- a pattern stands for all that one which it stands for stands for
stands_on : (p q text : List ℕ) → stands_for p q ≡ true → stands_for q text ≡ true → stands_for p text ≡ true
stands_on p q text pq qt =
    elim (or_cases (text_eq p (codes "*")) (text_eq p q) pq) [
      | inl star ↦ or_left (text_eq p (codes "*")) (text_eq p text) star
      | inr same ↦ (rw (nat_list_eq_equiv.congr p q (codes "*") same, nat_list_eq_equiv.congr p q text same) qt)
    ]

covers_itself : (rule : Exclusion) → covers rule rule.org rule.name ≡ true
covers_itself rule = and_from (stands_for rule.org rule.org) (stands_for rule.name rule.name) (stands_for_itself rule.org) (stands_for_itself rule.name)

covers_on : (wide rule : Exclusion) (org name : List ℕ) → covers wide rule.org rule.name ≡ true
    → covers rule org name ≡ true → covers wide org name ≡ true
covers_on wide rule org name wider fits =
    and_from (stands_for wide.org org) (stands_for wide.name name)
    (stands_on wide.org rule.org org (first (stands_for wide.org rule.org) (stands_for wide.name rule.name) wider) (first (stands_for rule.org org) (stands_for rule.name name) fits))
    (stands_on wide.name rule.name name (second (stands_for wide.org rule.org) (stands_for wide.name rule.name) wider) (second (stands_for rule.org org) (stands_for rule.name name) fits))

-- what a covered rule covers, some rule covers
some_on : (rules : List Exclusion) (rule : Exclusion) (org name : List ℕ)
    → some_covers rules rule.org rule.name ≡ true → covers rule org name ≡ true → some_covers rules org name ≡ true
some_on rules rule org name covered fits =
    list_any-implies (λ wide. covers wide rule.org rule.name) (λ wide. covers wide org name) (λ wide wider. covers_on wide rule org name wider fits) rules covered

-- what a rule of a set within another covers, some rule of the other covers
within_on : (rules others : List Exclusion) (org name : List ℕ)
    → list_all (λ rule. some_covers others rule.org rule.name) rules ≡ true → some_covers rules org name ≡ true
    → some_covers others org name ≡ true
within_on [] others org name within covered = absurd (true≢false (sym covered))
within_on (rule ∷ rules) others org name within covered =
    elim (or_cases (covers rule org name) (some_covers rules org name) covered) [
      | inl fits ↦ some_on others rule org name (first (some_covers others rule.org rule.name) (list_all (λ r. some_covers others r.org r.name) rules) within) fits
      | inr later ↦ within_on rules others org name (second (some_covers others rule.org rule.name) (list_all (λ r. some_covers others r.org r.name) rules) within) later
    ]

pub excludes_more : (a b : ExclSet) (m : Module) → is_within a b ≡ true → is_excluded a m ≡ true
    → is_excluded b m ≡ true
excludes_more a b m within excluded = within_on a.rules b.rules m.org m.name within excluded

pub passes_more : (a b : ExclSet) (m : Module) → is_within a b ≡ true → is_excluded b m ≡ false
    → is_excluded a m ≡ false
passes_more a b m within free = false_before (is_excluded a m) (is_excluded b m) (excludes_more a b m within) free

pub within-trans : (a b c : ExclSet) → is_within a b ≡ true → is_within b c ≡ true → is_within a c ≡ true
within-trans a b c ab bc = list_all-implies (is_covered b) (is_covered c) (λ rule covered. within_on b.rules c.rules rule.org rule.name bc covered) a.rules ab

rules_within : (rules : List Exclusion) → list_all (λ rule. some_covers rules rule.org rule.name) rules ≡ true
rules_within [] = refl
rules_within (rule ∷ rules) =
    and_from (some_covers (rule ∷ rules) rule.org rule.name) (list_all (λ r. some_covers (rule ∷ rules) r.org r.name) rules)
    (or_left (covers rule rule.org rule.name) (some_covers rules rule.org rule.name) (covers_itself rule))
    (list_all-implies (λ r. some_covers rules r.org r.name) (λ r. some_covers (rule ∷ rules) r.org r.name) (λ r covered. or_right (covers rule r.org r.name) (some_covers rules r.org r.name) covered) rules (rules_within rules))

pub within-refl : (a : ExclSet) → is_within a a ≡ true
within-refl a = rules_within a.rules

module _ (a : ExclSet) where
  -- the rules that were left out add nothing
  uncovered_either : (rules : List Exclusion) (org name : List ℕ)
      → (some_covers a.rules org name || some_covers (uncovered a rules) org name) ≡ (some_covers a.rules org name || some_covers rules org name)
  uncovered_either rules org name = by (some_covers a.rules org name) refl
    where
      left_out : some_covers a.rules org name ≡ false → (rs : List Exclusion)
          → some_covers (uncovered a rs) org name ≡ some_covers rs org name
      left_out none [] = refl
      left_out none (rule ∷ rs) = at (is_covered a rule) refl (left_out none rs)
        where
          at : (covered : Bool) → is_covered a rule ≡ covered
              → some_covers (uncovered a rs) org name ≡ some_covers rs org name
              → some_covers (cond (not covered) (rule ∷ uncovered a rs) (uncovered a rs)) org name ≡ (covers rule org name || some_covers rs org name)
          at true e rest =
              let free : covers rule org name ≡ false = false_before (covers rule org name) (some_covers a.rules org name) (λ fits. some_on a.rules rule org name e fits) none in
              rw free rest
          at false e rest = ap (λ b. covers rule org name || b) rest

      by : (b : Bool) → some_covers a.rules org name ≡ b
          → (b || some_covers (uncovered a rules) org name) ≡ (b || some_covers rules org name)
      by true e = refl
      by false e = left_out e rules

pub join_covers : (a b : ExclSet) (org name : List ℕ)
    → some_covers (join_of a b).rules org name ≡ (some_covers a.rules org name || some_covers b.rules org name)
join_covers a b org name =
    list_any-append (λ rule. covers rule org name) a.rules (uncovered a b.rules) ∙ uncovered_either a b.rules org name

pub join_either : (a b : ExclSet) (m : Module) → is_excluded (join_of a b) m ≡ (is_excluded a m || is_excluded b m)
join_either a b m = join_covers a b m.org m.name

pub join_left : (a b : ExclSet) → is_within a (join_of a b) ≡ true
join_left a b =
    list_all-implies (is_covered a) (is_covered (join_of a b)) (λ rule covered. join_covers a b rule.org rule.name ∙ or_left (is_covered a rule) (is_covered b rule) covered) a.rules (within-refl a)

pub join_right : (a b : ExclSet) → is_within b (join_of a b) ≡ true
join_right a b =
    list_all-implies (is_covered b) (is_covered (join_of a b)) (λ rule covered. join_covers a b rule.org rule.name ∙ or_right (is_covered a rule) (is_covered b rule) covered) b.rules (within-refl b)

filter_all : {X : Type 0} (p q : X → Bool) (xs : List X) → list_all p xs ≡ true → list_all p (filter q xs) ≡ true
filter_all p q [] e = refl
filter_all {X} p q (x ∷ xs) e = at (q x) (filter_all p q xs (second (p x) (list_all p xs) e))
  where
    at : (b : Bool) → list_all p (filter q xs) ≡ true → list_all p (cond b (x ∷ filter q xs) (filter q xs)) ≡ true
    at true rest = and_from (p x) (list_all p (filter q xs)) (first (p x) (list_all p xs) e) rest
    at false rest = rest

pub join_least : (a b c : ExclSet) → is_within a c ≡ true → is_within b c ≡ true → is_within (join_of a b) c ≡ true
join_least a b c ac bc =
    list_all-append (is_covered c) a.rules (uncovered a b.rules) ∙ and_from (is_within a c) (list_all (is_covered c) (uncovered a b.rules)) ac (filter_all (is_covered c) (λ rule. not (is_covered a rule)) b.rules bc)

pub join_widens : (a b c : ExclSet) → is_within a b ≡ true → is_within (join_of a c) (join_of b c) ≡ true
join_widens a b c ab = join_least a c (join_of b c) (within-trans a b (join_of b c) ab (join_left b c)) (join_right b c)

nothing_covered : (rules : List Exclusion) → filter (λ rule. not (is_covered no_rules rule)) rules ≡ rules
nothing_covered [] = refl
nothing_covered (rule ∷ rules) = ap (λ rest. rule ∷ rest) (nothing_covered rules)

pub no_rules_left : (a : ExclSet) → join_of no_rules a ≡ a
no_rules_left a = ap (λ rules. record { rules = rules }) (nothing_covered a.rules)

pub no_rules_right : (a : ExclSet) → join_of a no_rules ≡ a
no_rules_right a = ap (λ rules. record { rules = rules }) (append-nil a.rules)

-- two rules with the same parts are one
pub rules_decide : (a b : Exclusion) → Decides (text_eq a.org b.org && text_eq a.name b.name) (a ≡ b)
rules_decide a b =
    let parts : Decides (text_eq a.org b.org && text_eq a.name b.name) ((a.org ≡ b.org) × (a.name ≡ b.name)) =
    Decides-and (text_eq a.org b.org) (text_eq a.name b.name) (slice_eq-Decides Decides-eqb a.org b.org (text_eq a.org b.org) refl) (slice_eq-Decides Decides-eqb a.name b.name (text_eq a.name b.name) refl) in
    Decides-like (text_eq a.org b.org && text_eq a.name b.name) joined split parts
  where
    joined : (a.org ≡ b.org) × (a.name ≡ b.name) → a ≡ b
    joined same = ap (λ org. record { org = org; name = a.name }) same.0 ∙ ap (λ name. record { org = b.org; name = name }) same.1

    split : a ≡ b → (a.org ≡ b.org) × (a.name ≡ b.name)
    split same = (ap (λ (rule : Exclusion). rule.org) same, ap (λ (rule : Exclusion). rule.name) same)
