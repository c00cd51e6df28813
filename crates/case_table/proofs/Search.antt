-- What a binary search finds in rows whose names rise.
use Rattle.std.proofs.Common.{◌≡◌, ℕ, suc, ◌+◌, ◌-◌, ◌<◌, ◌≤◌, Bool, true, false, List, [], ◌∷◌, ◌++◌, length, get_or, length-append, refl, sym, ◌∙◌, ap, arith, Some, None, ◌⊎◌, inl, inr}
use Rattle.std.specs.Prelude.{slice_get, find, option_map, HoldsAt}
use Rattle.std.specs.Ordering.{is_lt, is_eq, ordering_index, ordering_reverse}
use Rattle.std.specs.Str.{bytes_eq}
use Rattle.std.specs.Cmp.{alike_right}
use Rattle.std.specs.List.{position_or_len}
use Rattle.std.specs.List.Sorted.{IsNonDecreasingBy, IsPartitionPoint}
use Rattle.std.specs.declared.cmp.Ordering.{Ordering}
use Rattle.std.specs.declared.cmp.Ordering.TheVariants.{Less, Equal, Greater}
use Rattle.std.proofs.lemmas.Cmp.{nat_list_cmp_total}
use Rattle.std.proofs.lemmas.Map.Text.{is_eq-slice_cmp}
use Rattle.std.proofs.lemmas.Option.{slice_get-get_or}
use Rattle.std.proofs.lemmas.List.Folds.{find_at}
use Rattle.std.proofs.lemmas.List.Sums.{position_or_len_is}
use Rattle.std.proofs.lemmas.List.Sorted.{searchable_from_sorted}
use Rattle.std.proofs.lemmas.Bool.{cases_lt}
use Rattle.std.proofs.lemmas.List.{get_or_append_left}
use Rattle.std.proofs.Math.Seq.{get_or-append_seam}
use Rattle.std.specs.Option.{option_map_or}
use Rattle.case_table.specs.Rows.{name_cmp, value_at, may_follow, NamesRise}

find_none : {X : Type 0} (p : X → Bool) (xs : List X) → ((k : ℕ) (d : X) → k < length xs → p (get_or xs k d) ≡ false)
    → find p xs ≡ None
find_none p [] fails = refl
find_none p (x ∷ xs) fails = rw (fails 0 x (omega arith)) (find_none p xs (λ k d within. fails (suc k) d (omega arith)))

module _ {T : Type 0} (name : List ℕ) (rows : List (List ℕ × T)) (rise : NamesRise rows) where
  pub found_first : (place : ℕ) (row : List ℕ × T) → place < length rows → row ≡ get_or rows place row
      → HoldsAt (λ r. name_cmp r.0 name ≡ Equal) rows place → value_at name rows ≡ Some row.1
  found_first place row within is named =
      let here : bytes_eq (get_or rows place row).0 name ≡ true = sym (is_eq-slice_cmp (get_or rows place row).0 name)
      ∙ ap is_eq (named row) in
      let earlier : (k : ℕ) → k < place → bytes_eq (get_or rows k row).0 name ≡ false =
      λ k below. sym (is_eq-slice_cmp (get_or rows k row).0 name)
      ∙ ap is_eq (sym (alike_right nat_list_cmp_total (get_or rows place row).0 name (get_or rows k row).0
      (named row)) ∙ rise k place row below within) in
      let first : position_or_len (λ r. bytes_eq r.0 name) rows ≡ place =
      position_or_len_is (λ r. bytes_eq r.0 name) rows place row (omega (arith, within)) earlier (λ _. here) in
      ap (option_map (λ r. r.1)) (find_at (λ r. bytes_eq r.0 name) rows ∙ ap (slice_get rows) first
      ∙ slice_get-get_or rows place row within ∙ ap Some (sym is))

  pub found_none : (place : ℕ) → IsPartitionPoint (λ r. name_cmp r.0 name ≡ Less)
      (λ r. name_cmp r.0 name ≡ Greater) rows place → value_at name rows ≡ None
  found_none place split =
      ap (option_map (λ r. r.1)) (find_none (λ r. bytes_eq r.0 name) rows
      (λ k d within. sym (is_eq-slice_cmp (get_or rows k d).0 name) ∙ apart k d within (cases_lt k place)))
    where
      apart : (k : ℕ) (d : List ℕ × T) → k < length rows → (k < place) ⊎ (place ≤ k)
          → is_eq (name_cmp (get_or rows k d).0 name) ≡ false
      apart k d within (inl before) = ap is_eq (split.0 k d (omega arith) before)
      apart k d within (inr after) = ap is_eq (split.1 k d after within)

  pub rows_rise : IsNonDecreasingBy (λ r. ordering_index (name_cmp r.0 name)) rows
  rows_rise = searchable_from_sorted nat_list_cmp_total (λ r. r.0) rows name
      (λ k d low high. ap is_lt (nat_list_cmp_total.antisymm (get_or rows (k + 1) d).0 (get_or rows k d).0
      ∙ ap ordering_reverse (rise k (k + 1) d (omega arith) high)))

is_less : (o : Ordering) → is_lt o ≡ true → o ≡ Less
is_less Less e = refl
is_less Equal e = cc
is_less Greater e = cc

-- each name is below that of a row that may follow
below_next : {T : Type 0} (rows : List (List ℕ × T)) (name : List ℕ) → NamesRise rows → may_follow rows name ≡ true
    → (k : ℕ) (d : List ℕ × T) → k < length rows → name_cmp (get_or rows k d).0 name ≡ Less
below_next {T} rows name rise follows k d inside = by_place (cases_lt k last)
  where
    last : ℕ
    last = length rows - 1

    last_below : name_cmp (get_or rows (length rows - 1) d).0 name ≡ Less
    last_below = is_less _ (ap (λ o. option_map_or (λ row. is_lt (name_cmp row.0 name)) o true)
        (sym (slice_get-get_or rows (length rows - 1) d (omega (arith, inside)))) ∙ follows)

    by_place : (k < length rows - 1) ⊎ (length rows - 1 ≤ k) → name_cmp (get_or rows k d).0 name ≡ Less
    by_place (inl before) = nat_list_cmp_total.trans (get_or rows k d).0 (get_or rows (length rows - 1) d).0 name
        (rise k (length rows - 1) d before (omega (arith, inside))) last_below
    by_place (inr after) = let same : k ≡ length rows - 1 = omega arith in rw same last_below

-- so the names still rise with it
pub rise_more : {T : Type 0} (rows : List (List ℕ × T)) (name : List ℕ) (value : T) → NamesRise rows
    → may_follow rows name ≡ true → NamesRise (rows ++ (name, value) ∷ [])
rise_more {T} rows name value rise follows i j d before within = by_place (cases_lt j (length rows))
  where
    inside : i < length rows
    inside = omega (arith, before, within, length-append rows ((name, value) ∷ []))

    by_place : (j < length rows) ⊎ (length rows ≤ j) → name_cmp (get_or (rows ++ (name, value) ∷ []) i d).0
        (get_or (rows ++ (name, value) ∷ []) j d).0 ≡ Less
    by_place (inl early) = rw (
      get_or_append_left rows ((name, value) ∷ []) d i (omega arith),
      get_or_append_left rows
          ((name, value) ∷ []) d j early,
    ) (rise i j d before early)
    by_place (inr late) =
        let same : j ≡ length rows = omega (arith, within, length-append rows ((name, value) ∷ [])) in
        rw (same, get_or_append_left rows ((name, value) ∷ []) d i inside, get_or-append_seam rows (name, value) [] d)
        (below_next rows name rise follows i d inside)
