-- Covered rules by four look-ups, and the table that they go to.
use Rattle.std.proofs.Common.{◌≡◌, ℕ, Bool, true, false, not, cond, ◌&&◌, ◌||◌, List, [], ◌∷◌, ◌++◌, filter, refl, sym, ◌∙◌, ap, rules}
use Rattle.std.specs.BTreeSet.{BTreeSet, Updates, contains}
use Rattle.std.specs.Ordering.{eq_by_cmp}
use Rattle.std.specs.Cmp.Rules.{comparing}
use Rattle.std.specs.Prelude.{codes}
use Rattle.std.proofs.Math.Bool.{or-true, or-false}
use Rattle.std.proofs.lemmas.List.Folds.{list_any-append}
use Rattle.res_base.specs.Names.{module_cmp, module_eq, text_eq}
use Rattle.res_base.specs.declared.coord.Module.{Module}
use Rattle.res_base.specs.declared.pom.Exclusion.{Exclusion}
use Rattle.exclusion_sets.specs.Exclusions.{covers, is_covered, some_covers, uncovered}
use Rattle.exclusion_sets.specs.Lookups.{HasRules, has_rule, is_found, table_has, unfound}
use Rattle.exclusion_sets.specs.declared.excl_set.ExclSet.{ExclSet}

-- of an org or `*`, with a name or `*`
four : (any_org org any_name name : Bool)
    → ((any_org || org) && (any_name || name)) ≡ ((org && name) || ((org && any_name) || ((any_org && any_name) || (any_org && name))))
four true true true name = sym (or-true name)
four true true false true = refl
four true true false false = refl
four true false any_name name = refl
four false true true name = sym (or-true name)
four false true false name = sym (or-false name)
four false false any_name name = refl

or_pairs : (a b c d : Bool) → ((a || b) || (c || d)) ≡ ((a || c) || (b || d))
or_pairs true b c d = refl
or_pairs false true c d = sym (or-true c)
or_pairs false false c d = refl

or_fours : (a b c d e f g h : Bool)
    → ((a || (b || (c || d))) || (e || (f || (g || h)))) ≡ ((a || e) || ((b || f) || ((c || g) || (d || h))))
or_fours a b c d e f g h =
    or_pairs a (b || (c || d)) e (f || (g || h))
    ∙ ap (λ rest. (a || e) || rest)
    (or_pairs b (c || d) f (g || h) ∙ ap (λ rest. (b || f) || rest) (or_pairs c d g h))

or_same : (a b c d : Bool) → a ≡ b → c ≡ d → (a || c) ≡ (b || d)
or_same a b c d first second = ap (λ one. one || c) first ∙ ap (λ one. b || one) second

four_lookups : (rules : List Exclusion) (org name : List ℕ)
    → some_covers rules org name ≡ is_found (has_rule rules) org name
four_lookups [] org name = refl
four_lookups (rule ∷ rules) org name =
    let star = codes "*" in
    let has = has_rule rules in
    let own = λ (o n : List ℕ). text_eq rule.org o && text_eq rule.name n in
    let here : covers rule org name ≡ is_found own org name =
    four (text_eq rule.org star) (text_eq rule.org org) (text_eq rule.name star) (text_eq rule.name name) in
    or_same (covers rule org name) (is_found own org name) (some_covers rules org name) (is_found has org name)
    here (four_lookups rules org name)
    ∙ or_fours (own org name) (own org star) (own star star) (own star name)
    (has org name) (has org star) (has star star) (has star name)

pub covered_by_lookups : (set : ExclSet) (rule : Exclusion)
    → is_covered set rule ≡ is_found (has_rule set.rules) rule.org rule.name
covered_by_lookups set rule = four_lookups set.rules rule.org rule.name

found_alike : (f g : List ℕ → List ℕ → Bool) → ((org name : List ℕ) → f org name ≡ g org name) → (org name : List ℕ)
    → is_found f org name ≡ is_found g org name
found_alike f g alike org name =
    let star = codes "*" in
    let any_name = or_same (f star star) (g star star) (f star name) (g star name) (alike star star) (alike star name) in
    or_same (f org name) (g org name) _ _ (alike org name) (or_same (f org star) (g org star) _ _ (alike org star) any_name)

filter_alike : {X : Type 0} (p q : X → Bool) → ((x : X) → p x ≡ q x) → (xs : List X) → filter p xs ≡ filter q xs
filter_alike p q alike [] = refl
filter_alike p q alike (x ∷ xs) = rw (alike x, filter_alike p q alike xs) refl

-- what the table does not find, the set does not cover
pub unfound_is_uncovered : (set : ExclSet) (table : BTreeSet Module) → HasRules set.rules table
    → (more : List Exclusion)
    → unfound table more ≡ uncovered set more
unfound_is_uncovered set table has more =
    let found = λ (one : Exclusion). is_found (table_has table) one.org one.name in
    let alike = λ (one : Exclusion). found_alike (table_has table) (has_rule set.rules) has one.org one.name ∙ sym (covered_by_lookups set one) in
    filter_alike (λ one. not (found one)) (λ one. not (is_covered set one)) (λ one. ap not (alike one)) more

module_ties : (a b : Module) → module_eq a b ≡ eq_by_cmp module_cmp a b
module_ties = search (comparing, rules)

pub rules_push : (rules : List Exclusion) (rule : Exclusion) (before after : BTreeSet Module) → HasRules rules before
    → Updates module_cmp before after (record { org = rule.org; name = rule.name }) true
    → HasRules (rules ++ rule ∷ []) after
rules_push rules rule before after has updated org name =
    let asked : Module = record { org = org; name = name } in
    let own : Module = record { org = rule.org; name = rule.name } in
    let same = module_eq own asked in
    updated.0 asked ∙ ap (λ tied. cond tied true (contains module_cmp before asked)) (sym (module_ties own asked))
    ∙ ap (cond same true) (has org name) ∙ by same (has_rule rules org name)
    ∙ sym (list_any-append (λ (one : Exclusion). text_eq one.org org && text_eq one.name name) rules (rule ∷ []))
  where
    by : (same before : Bool) → cond same true before ≡ (before || (same || false))
    by true before = sym (or-true before)
    by false before = sym (or-false before)
