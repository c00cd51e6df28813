-- Where a text leaves the texts of one or more bytes of a class that are neither one dot nor two.
use Rattle.std.proofs.Common.{◌≡◌, ℕ, ◌+◌, ◌<◌, ◌≤◌, Bool, true, false, not, ◌&&◌, List, [], ◌∷◌, ◌++◌, length, take, drop, get_or, refl, sym, ◌∙◌, ap, subst, arith}
use Rattle.std.specs.Prelude.{nat_le}
use Rattle.std.specs.List.{list_all}
use Rattle.std.proofs.lemmas.Bool.{and_parts, and_from, and_right}
use Rattle.std.proofs.lemmas.List.{take_more, take_all, take-append-drop}
use Rattle.std.proofs.lemmas.List.Folds.{list_all-append}
use Rattle.fault_place.specs.Place.{GoesOn, IsPlace}
use Rattle.res_base.specs.Plain.{is_dot, is_at_most_two_dots}
use Rattle.cache_layout.specs.Addresses.{IsNamed}

true_false : {P : Type 0} (b : Bool) → b ≡ true → b ≡ false → P
true_false b p q = cc

module _ (has : ℕ → Bool) where
  all_both : (a b : List ℕ) → list_all has (a ++ b) ≡ true → (list_all has a ≡ true) × (list_all has b ≡ true)
  all_both a b all = and_parts (list_all has a) (list_all has b) (sym (list_all-append has a b) ∙ all)

  -- a text with another byte is not of the class
  pub not_all : {P : Type 0} (text rest : List ℕ) (i : ℕ) → i < length text → has (get_or text i 0) ≡ false
      → list_all has (take (i + 1) text ++ rest) ≡ true → P
  not_all text rest i inside never all =
      let front : list_all has (take i text ++ get_or text i 0 ∷ []) ≡ true =
      ap (list_all has) (sym (take_more text i 0 inside)) ∙ (all_both (take (i + 1) text) rest all).0 in
      let last = (all_both (take i text) (get_or text i 0 ∷ []) front).1 in
      true_false (has (get_or text i 0)) (and_parts (has (get_or text i 0)) true last).0 never

  module _ (letter : has 97 ≡ true) where
    with_letter : (text : List ℕ) → list_all has text ≡ true → IsNamed has (text ++ 97 ∷ [])
    with_letter text all =
        let bytes : list_all has (text ++ 97 ∷ []) ≡ true = list_all-append has text (97 ∷ [])
        ∙ and_from (list_all has text) (list_all has (97 ∷ [])) all (rw letter refl) in
        let dots : list_all is_dot (text ++ 97 ∷ []) ≡ false = list_all-append is_dot text (97 ∷ [])
        ∙ and_right (list_all is_dot text) false refl in
        and_from (list_all has (text ++ 97 ∷ [])) (not (is_at_most_two_dots (text ++ 97 ∷ []))) bytes
        (rw dots refl)

    -- at a byte that is not of the class
    pub named_stops : (text : List ℕ) (i : ℕ) → i < length text → list_all has (take i text) ≡ true
        → has (get_or text i 0) ≡ false → IsPlace (IsNamed has) text i
    named_stops text i inside all never = record {
      within = omega (arith, inside);
      outside = λ named.
          let bytes = (and_parts (list_all has text) (not (is_at_most_two_dots text)) named).0 in
          let e : list_all has (take (i + 1) text ++ drop (i + 1) text) ≡ true =
          ap (list_all has) (take-append-drop (i + 1) text) ∙ bytes in
          not_all text (drop (i + 1) text) i inside never e;
      goes_on = (97 ∷ [], with_letter (take i text) all);
      no_more = λ _ (rest, named).
          not_all text rest i inside never (and_parts (list_all has (take (i + 1) text ++ rest))
          (not (is_at_most_two_dots (take (i + 1) text ++ rest))) named).0;
    }

    -- at the end of too few dots
    pub named_short : (text : List ℕ) → list_all has text ≡ true → is_at_most_two_dots text ≡ true
        → IsPlace (IsNamed has) text (length text)
    named_short text all dots =
        let whole : take (length text) text ≡ text = take_all (length text) text (omega arith) in
        record {
          within = omega arith;
          outside = λ named.
              let other = (and_parts (list_all has text) (not (is_at_most_two_dots text)) named).1 in
              true_false (not (is_at_most_two_dots text)) other (ap not dots);
          goes_on = (97 ∷ [], with_letter (take (length text) text) (ap (list_all has) whole ∙ all));
          no_more = λ more _. absurd (omega (arith, more));
        }
