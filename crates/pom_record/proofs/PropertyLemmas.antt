-- Properties in a list, and the map of their names beside it.
use Rattle.std.proofs.Common.{◌≡◌, ℕ, Bool, true, false, cond, ◌||◌, List, [], ◌∷◌, ◌++◌, refl, sym, ap, ◌∙◌, is_some, Option, Some, inl, inr}
use Rattle.std.proofs.lemmas.Bool.{true≢false, cases_Bool}
use Rattle.std.proofs.lemmas.List.Folds.{list_any-append}
use Rattle.std.proofs.lemmas.Slice.Eq.{bytes_eq-Decides}
use Rattle.std.specs.BTreeMap.{BTreeMap, get_by}
use Rattle.std.specs.Cmp.Lexicographic.{slice_cmp}
use Rattle.std.specs.Map.{update}
use Rattle.std.specs.Ordering.{nat_cmp}
use Rattle.std.specs.Str.{bytes_eq}
use denote.Ref.{Bor}
use Rattle.res_base.specs.declared.pom.Property.{Property}
use Rattle.pom_record.specs.Record.{has_name, put_property}

abbrev pub Names : Type 0
Names = BTreeMap (Bor (List ℕ)) (Unit {0})

abbrev pub found : Names → List ℕ → Option (Unit {0})
found names name = get_by (λ k. slice_cmp nat_cmp name k.now) names

abbrev pub knows : Names → List ℕ → Bool
knows names name = is_some (found names name)

-- a name that is there changes nothing
pub stays : (made : List Property) (p : Property) → has_name p.name made ≡ true → made ≡ put_property made p
stays made p there = ap (λ b. cond b made (made ++ p ∷ [])) (sym there)

-- another one stands last
pub grows : (made : List Property) (p : Property) → has_name p.name made ≡ false → made ++ p ∷ [] ≡ put_property made p
grows made p absent = ap (λ b. cond b made (made ++ p ∷ [])) (sym absent)

same_either_way : (a b : List ℕ) → bytes_eq a b ≡ bytes_eq b a
same_either_way a b =
    elim (cases_Bool (bytes_eq a b)) [
      | inl is ↦ is ∙ sym ((bytes_eq-Decides b a).1 (sym ((bytes_eq-Decides a b).0 is)))
      | inr not ↦ elim (cases_Bool (bytes_eq b a)) [
        | inl is ↦ absurd (true≢false (sym ((bytes_eq-Decides a b).1 (sym ((bytes_eq-Decides b a).0 is))) ∙ not))
        | inr other ↦ not ∙ sym other
      ]
    ]

some_if : (b : Bool) (o : Option (Unit {0})) → is_some (cond b (Some tt) o) ≡ (b || is_some o)
some_if true o = refl
some_if false o = refl

or_last : (a b : Bool) → (a || b) ≡ (b || (a || false))
or_last true true = refl
or_last true false = refl
or_last false true = refl
or_last false false = refl

-- the names grow with the properties
pub knows_more : (names next : Names) (made : List Property) (p : Property) (q : List ℕ)
    → found next q ≡ update bytes_eq (found names) p.name (Some tt) q → knows names q ≡ has_name q made
    → knows next q ≡ has_name q (made ++ p ∷ [])
knows_more names next made p q updates known =
    ap is_some updates
    ∙ some_if (bytes_eq p.name q) (found names q)
    ∙ ap (λ b. bytes_eq p.name q || b) known
    ∙ or_last (bytes_eq p.name q) (has_name q made)
    ∙ ap (λ b. has_name q made || (b || false)) (same_either_way p.name q)
    ∙ sym (list_any-append (λ r. bytes_eq q r.name) made (p ∷ []))
