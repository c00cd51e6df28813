-- The number that a name has leads back to the name.
use Rattle.std.proofs.Common.{◌≡◌, ℕ, zero, suc, ◌+◌, ◌<◌, Bool, true, false, cond, List, [], ◌∷◌, length, get_or, Option, Some, None, refl, sym, ap, subst, ◌∙◌, inl, inr, arith}
use Rattle.std.specs.Prelude.{◌==◌, find, option_map}
use Rattle.std.specs.Str.{bytes_eq}
use Rattle.std.proofs.lemmas.Slice.Eq.{bytes_eq-Decides}
use Rattle.std.proofs.lemmas.Bool.{true≢false, cases_Bool, and_parts, eqb-true, eq-eqb}
use Rattle.std.proofs.lemmas.Option.{none-some, same_Some}
use Rattle.case_table.specs.Rows.{value_at}
use Rattle.case_table.specs.Numbers.{names_of, name_at, is_place, lead_to_places, are_numbered}

number_is : (found : Option ℕ) (k : ℕ) → is_place found k ≡ true → found ≡ Some k
number_is None k e = absurd (true≢false (sym e))
number_is (Some n) k e = ap Some (eqb-true n k e)

placed_from : (rows : List (List ℕ × ℕ)) (names : List (List ℕ)) (start k : ℕ) → k < length names
    → lead_to_places rows names start ≡ true
    → value_at (get_or names k []) rows ≡ Some (start + k)
placed_from rows [] start k h e = absurd (omega (arith, h))
placed_from rows (name ∷ names) start zero h e =
    let sum : start ≡ start + 0 = omega arith in
    number_is (value_at name rows) start (and_parts (is_place (value_at name rows) start)
    (lead_to_places rows names (start + 1)) e).0 ∙ ap Some sum
placed_from rows (name ∷ names) start (suc k) h e =
    let below : k < length names = omega (arith, h) in
    let sum : start + 1 + k ≡ start + suc k = omega arith in
    placed_from rows names (start + 1) k below (and_parts (is_place (value_at name rows) start)
    (lead_to_places rows names (start + 1)) e).1 ∙ ap Some sum

length_names : (rows : List (List ℕ × ℕ)) → length (names_of rows) ≡ length rows
length_names [] = refl
length_names (row ∷ rows) = ap suc (length_names rows)

-- a name that is found is the name of a row
named_row : (rows : List (List ℕ × ℕ)) (name : List ℕ) (number : ℕ) → value_at name rows ≡ Some number → (k : ℕ)
    × (k < length rows) × (name_at rows k ≡ name)
named_row [] name number e = absurd (none-some number e)
named_row (row ∷ rows) name number e = by (bytes_eq row.0 name) refl (named_row rows name number) e
  where
    by : (b : Bool) → bytes_eq row.0 name ≡ b
        → (value_at name rows ≡ Some number → (k : ℕ) × (k < length rows) × (name_at rows k ≡ name))
        → option_map (λ r. r.1) (cond b (Some row) (find (λ r. bytes_eq r.0 name) rows)) ≡ Some number
        → (k : ℕ) × (k < length (row ∷ rows)) × (name_at (row ∷ rows) k ≡ name)
    by true is later found = (0, omega arith, (bytes_eq-Decides row.0 name).0 is)
    by false is later found = let l = later found in (suc l.0, omega (arith, l.1), l.2)

module _ (rows : List (List ℕ × ℕ)) (good : are_numbered rows ≡ true) where
  pub placed : (k : ℕ) → k < length rows → value_at (name_at rows k) rows ≡ Some k
  placed k h =
      let within : k < length (names_of rows) = omega (arith, h, length_names rows) in
      let sum : 0 + k ≡ k = omega arith in
      placed_from rows (names_of rows) 0 k within good ∙ ap Some sum

  pub named : (name : List ℕ) (number : ℕ) → value_at name rows ≡ Some number → (number < length rows)
      × (name_at rows number ≡ name)
  named name number e =
      let row = named_row rows name number e in
      let there : Some row.0 ≡ Some number = sym (placed row.0 row.1) ∙ ap (λ x. value_at x rows) row.2 ∙ e in
      let same : row.0 ≡ number = same_Some row.0 number there in
      let P : ℕ → Type 0 = λ n. (n < length rows) × (name_at rows n ≡ name) in
      subst P same (row.1, row.2)

  pub told : (name : List ℕ) (number k : ℕ) → k < length rows → value_at name rows ≡ Some number
      → (number == k) ≡ bytes_eq name (name_at rows k)
  told name number k h found = by (bytes_eq name (name_at rows k)) refl
    where
      by : (b : Bool) → bytes_eq name (name_at rows k) ≡ b → (number == k) ≡ b
      by true is =
          let there : Some number ≡ Some k = sym found
          ∙ ap (λ x. value_at x rows) ((bytes_eq-Decides name (name_at rows k)).0 is) ∙ placed k h in
          eq-eqb number k (same_Some number k there)
      by false is =
          let apart : (number == k) ≡ true → ⊥ =
          λ e.
          let it : name ≡ name_at rows k = sym (named name number found).1 ∙ ap (name_at rows) (eqb-true number k e) in
          true≢false (sym ((bytes_eq-Decides name (name_at rows k)).1 it) ∙ is) in
          elim (cases_Bool (number == k)) [ inl e ↦ absurd (apart e) | inr e ↦ e ]

  pub absent : (name : List ℕ) (k : ℕ) → k < length rows → value_at name rows ≡ None
      → bytes_eq name (name_at rows k) ≡ false
  absent name k h none =
      elim (cases_Bool (bytes_eq name (name_at rows k))) [
        | inl is ↦ absurd (none-some k (sym none ∙ ap (λ x. value_at x rows)
            ((bytes_eq-Decides name (name_at rows k)).0 is) ∙ placed k h))
        | inr is ↦ is
      ]
