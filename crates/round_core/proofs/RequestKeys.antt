-- A set of keys has one for each request.
use Rattle.std.proofs.Common.{◌≡◌, ℕ, Bool, true, false, cond, not, ◌||◌, ◌&&◌, List, [], ◌∷◌, ◌++◌, refl, sym, ◌∙◌, ap, subst, eqb-true, eq-eqb, rules}
use Rattle.std.specs.Prelude.{◌==◌, nat_eq}
use Rattle.std.specs.BTreeSet.{BTreeSet, Updates, contains}
use Rattle.std.specs.Cmp.Rules.{comparing}
use Rattle.std.specs.List.{list_any}
use Rattle.std.specs.Ordering.{eq_by_cmp}
use Rattle.std.proofs.Math.Bool.{or-false, or-true}
use Rattle.std.proofs.lemmas.List.Folds.{list_any-append}
use Rattle.live_walk.proofs.Members.{and_both, both_ways}
use Rattle.live_walk.proofs.Modules.{module_itself, module_same, text_itself, text_same}
use Rattle.reconcile_rules.specs.declared.request.Asker.{Asker}
use Rattle.reconcile_rules.specs.declared.request.Asker.TheVariants.{Project, Root}
use Rattle.reconcile_rules.specs.declared.request.Request.{Request}
use Rattle.res_base.specs.Names.{coord_eq, module_eq, text_eq}
use Rattle.res_base.specs.declared.coord.Coord.{Coord}
use Rattle.res_base.specs.declared.coord.Module.{Module}
use Rattle.round_core.specs.RequestKeys.{HasKeys, key_for, key_of_request, request_key_cmp, request_key_eq}
use Rattle.round_core.specs.Requests.{asker_eq, request_eq}
use Rattle.round_core.specs.Tables.{once}
use Rattle.round_core.specs.declared.request_key.RequestKey.{RequestKey}
use Rattle.round_core.proofs.Named.{same_either_way}

text_either_way : (a b : List ℕ) → text_eq a b ≡ text_eq b a
text_either_way a b =
    both_ways (text_eq a b) (text_eq b a)
    (λ h. subst (λ z. text_eq z a ≡ true) (text_same a b h) (text_itself a))
    (λ h. subst (λ z. text_eq z b ≡ true) (text_same b a h) (text_itself b))

nat_either_way : (a b : ℕ) → (a == b) ≡ (b == a)
nat_either_way a b =
    both_ways (a == b) (b == a)
    (λ h. let q : a ≡ b = eqb-true a b h in eq-eqb b a (sym q))
    (λ h. let q : b ≡ a = eqb-true b a h in eq-eqb a b (sym q))

-- ---- keys are those of one request exactly where the requests are one

root_parts : (place text : Bool) → ((((true && place) && true) && true) && text) ≡ (text && place)
root_parts true true = refl
root_parts true false = refl
root_parts false true = refl
root_parts false false = refl

project_parts : (m version text : Bool) → ((((true && true) && m) && version) && text) ≡ (text && (m && version))
project_parts true true true = refl
project_parts true true false = refl
project_parts true false true = refl
project_parts true false false = refl
project_parts false version true = refl
project_parts false version false = refl

none_of_both : (text : Bool) → false ≡ (text && false)
none_of_both true = refl
none_of_both false = refl

keys_alike : (a b : List ℕ) (one other : Asker) → request_key_eq (key_for a one) (key_for b other)
    ≡ (text_eq b a && asker_eq other one)
keys_alike a b (Root i) (Root j) = root_parts (i == j) (text_eq a b) ∙ ap (λ t. t && (i == j)) (text_either_way a b)
    ∙ ap (λ t. text_eq b a && t) (nat_either_way i j)
keys_alike a b (Root i) (Project d) = none_of_both (text_eq b a)
keys_alike a b (Project c) (Root j) = none_of_both (text_eq b a)
keys_alike a b (Project c) (Project d) =
    project_parts (module_eq c.«module» d.«module») (text_eq c.version d.version) (text_eq a b)
    ∙ ap (λ t. t && (module_eq c.«module» d.«module» && text_eq c.version d.version)) (text_either_way a b)
    ∙ ap (λ t. text_eq b a && (t && text_eq c.version d.version)) (same_either_way c.«module» d.«module»)
    ∙ ap (λ t. text_eq b a && (module_eq d.«module» c.«module» && t)) (text_either_way c.version d.version)

key_ties : (a b : RequestKey) → request_key_eq a b ≡ eq_by_cmp request_key_cmp a b
key_ties = search (comparing, rules)

-- ---- one request more

pub keys_more : (requests : List Request) (r : Request) (before after : BTreeSet RequestKey) → HasKeys before requests
    → Updates request_key_cmp before after (key_of_request r) true → HasKeys after (requests ++ r ∷ [])
keys_more requests r before after has updated q =
    updated.0 (key_of_request q)
    ∙ ap (λ tied. cond tied true (contains request_key_cmp before (key_of_request q)))
    (sym (key_ties (key_of_request r) (key_of_request q)) ∙ keys_alike r.text q.text r.«from» q.«from»)
    ∙ ap (cond (request_eq q r) true) (has q)
    ∙ by (request_eq q r) (list_any (request_eq q) requests)
    ∙ sym (list_any-append (request_eq q) requests (r ∷ []))
  where
    by : (same there : Bool) → cond same true there ≡ (there || (same || false))
    by true there = sym (or-true there)
    by false there = sym (or-false there)
