-- A table of the places of names, and the pairs.
use Rattle.std.proofs.Common.{◌≡◌, ℕ, zero, suc, ◌+◌, ◌<◌, arith, Bool, true, false, cond, Option, None, Some, List, [], ◌∷◌, ◌++◌, length, get_or, refl, sym, ◌∙◌, ap}
use Rattle.std.specs.BTreeMap.{BTreeMap, get_by}
use Rattle.std.specs.Cmp.Lexicographic.{nat_list_eq_equiv}
use Rattle.std.specs.List.{position_from}
use Rattle.std.specs.Option.{is_some}
use Rattle.std.proofs.lemmas.Iterator.Adapters.{position_from-zero}
use Rattle.std.proofs.lemmas.List.{map-append}
use Rattle.std.proofs.lemmas.List.Quantifiers.{position-Some}
use Rattle.std.proofs.lemmas.Option.{none-some}
use denote.Ref.{Bor}
use Rattle.res_base.specs.Names.{text_cmp, text_eq}
use Rattle.property_text.specs.Values.{HasPlaces, Pair, place_of, seen, value_in, with_value}

abbrev pub found : BTreeMap (Bor (List ℕ)) ℕ → List ℕ → Option ℕ
found places name = get_by (λ key. text_cmp name key.now) places

abbrev is_under : List ℕ → Pair → Bool
is_under name pair = text_eq name pair.0

abbrev place_from : List ℕ → ℕ → List Pair → Option ℕ
place_from name start pairs = position_from (is_under name) start pairs

from_start : (name : List ℕ) (pairs : List Pair) → place_of pairs name ≡ place_from name 0 pairs
from_start name pairs = position_from-zero (is_under name) pairs

-- a name without a place has no value
unplaced_from : (name : List ℕ) (start : ℕ) (pairs : List Pair) → place_from name start pairs ≡ None → value_in pairs name ≡ None
unplaced_from name start [] none = refl
unplaced_from name start (pair ∷ pairs) none = at (text_eq name pair.0) none (unplaced_from name (start + 1) pairs)
  where
    at : (b : Bool) → cond b (Some start) (place_from name (start + 1) pairs) ≡ None
        → (place_from name (start + 1) pairs ≡ None → value_in pairs name ≡ None)
        → cond b (Some pair.1) (value_in pairs name) ≡ None
    at true e rest = absurd (none-some start (sym e))
    at false e rest = rest e

pub unplaced : (name : List ℕ) (pairs : List Pair) → place_of pairs name ≡ None → value_in pairs name ≡ None
unplaced name pairs none = unplaced_from name 0 pairs (sym (from_start name pairs) ∙ none)

value_at : (name : List ℕ) (pairs : List Pair) (place : ℕ) (d : Pair) → place < length pairs
    → is_under name (get_or pairs place d) ≡ true → ((k : ℕ) → k < place → is_under name (get_or pairs k d) ≡ false)
    → value_in pairs name ≡ Some (get_or pairs place d).1
value_at name [] place d within here before = absurd (omega (arith, within))
value_at name (pair ∷ pairs) zero d within here before = rw here refl
value_at name (pair ∷ pairs) (suc place) d within here before =
    let later = λ (k : ℕ) (e : k < place). before (suc k) (omega (arith, e)) in
    rw (before zero (omega arith)) (value_at name pairs place d (omega (arith, within)) here later)

-- a name with a place has the value there
pub placed : (name : List ℕ) (pairs : List Pair) (place : ℕ) (d : Pair) → place_of pairs name ≡ Some place
    → value_in pairs name ≡ Some (get_or pairs place d).1
placed name pairs place d e =
    let at = position-Some (is_under name) pairs place d e in
    value_at name pairs place d at.0 at.1 at.2

pub within : (name : List ℕ) (pairs : List Pair) (place : ℕ) → place_of pairs name ≡ Some place → place < length pairs
within name pairs place e = (position-Some (is_under name) pairs place (name, name) e).0

known_from : (name : List ℕ) (start : ℕ) (pairs : List Pair)
    → is_some (place_from name start pairs) ≡ is_some (value_in pairs name)
known_from name start [] = refl
known_from name start (pair ∷ pairs) = at (text_eq name pair.0) (known_from name (start + 1) pairs)
  where
    at : (b : Bool) → is_some (place_from name (start + 1) pairs) ≡ is_some (value_in pairs name)
        → is_some (cond b (Some start) (place_from name (start + 1) pairs)) ≡ is_some (cond b (Some pair.1) (value_in pairs name))
    at true rest = refl
    at false rest = rest

pub known_by : (pairs : List Pair) (places : BTreeMap (Bor (List ℕ)) ℕ) (name : List ℕ) → HasPlaces pairs places
    → is_some (found places name) ≡ is_some (value_in pairs name)
known_by pairs places name has = ap is_some (has name ∙ from_start name pairs) ∙ known_from name 0 pairs

abbrev otherwise : Option ℕ → Option ℕ → Option ℕ
otherwise None other = other
otherwise (Some place) other = Some place

-- the place of a name, or else that of one more pair
abbrev place_with : List ℕ → ℕ → List Pair → Pair → Option ℕ
place_with name start pairs last =
    otherwise (place_from name start pairs) (cond (text_eq name last.0) (Some (start + length pairs)) None)

place_push : (name : List ℕ) (start : ℕ) (pairs : List Pair) (last : Pair)
    → place_from name start (pairs ++ last ∷ []) ≡ place_with name start pairs last
place_push name start [] last = ap (λ n. cond (text_eq name last.0) (Some n) None) (omega arith)
place_push name start (pair ∷ pairs) last = at (text_eq name pair.0) (place_push name (start + 1) pairs last)
  where
    at : (b : Bool) → place_from name (start + 1) (pairs ++ last ∷ []) ≡ place_with name (start + 1) pairs last
        → cond b (Some start) (place_from name (start + 1) (pairs ++ last ∷ []))
        ≡ otherwise (cond b (Some start) (place_from name (start + 1) pairs))
        (cond (text_eq name last.0) (Some (start + suc (length pairs))) None)
    at true later = refl
    at false later =
        let moved : start + 1 + length pairs ≡ start + suc (length pairs) = omega arith in
        let is = λ (n : ℕ). cond (text_eq name last.0) (Some n) None in
        later ∙ ap (λ n. otherwise (place_from name (start + 1) pairs) (is n)) moved

place_like : (a b : List ℕ) (start : ℕ) (pairs : List Pair) → text_eq a b ≡ true
    → place_from a start pairs ≡ place_from b start pairs
place_like a b start [] same = refl
place_like a b start (pair ∷ pairs) same =
    rw (nat_list_eq_equiv.congr a b pair.0 same, place_like a b (start + 1) pairs same) refl

-- a new pair, put last
pub places_push : (pairs : List Pair) (before after : BTreeMap (Bor (List ℕ)) ℕ) (name value : List ℕ)
    → HasPlaces pairs before → is_some (value_in pairs name) ≡ false
    → ((q : List ℕ) → found after q ≡ cond (text_eq name q) (Some (length pairs)) (found before q))
    → HasPlaces (pairs ++ (name, value) ∷ []) after
places_push pairs before after name value places new updated q =
    updated q ∙ ap (cond (text_eq name q) (Some (length pairs))) (places q ∙ from_start q pairs)
    ∙ at (text_eq name q) refl
    ∙ sym (place_push q 0 pairs (name, value)) ∙ sym (from_start q (pairs ++ (name, value) ∷ []))
  where
    plain : (place : Option ℕ) → place ≡ otherwise place None
    plain None = refl
    plain (Some place) = refl

    none_of : (place : Option ℕ) → is_some place ≡ false → place ≡ None
    none_of None e = refl
    none_of (Some place) e = cc

    at : (b : Bool) → text_eq name q ≡ b → cond b (Some (length pairs)) (place_from q 0 pairs)
        ≡ otherwise (place_from q 0 pairs) (cond (text_eq q name) (Some (0 + length pairs)) None)
    at true same =
        rw (
          sym (place_like name q 0 pairs same) ∙ none_of (place_from name 0 pairs) (known_from name 0 pairs ∙ new),
          nat_list_eq_equiv.symm q name,
          same,
        ) (ap Some (omega arith))
    at false other = rw (nat_list_eq_equiv.symm q name, other) (plain (place_from q 0 pairs))

pub new_pair : (pairs : List Pair) (name value : List ℕ) → is_some (value_in pairs name) ≡ false
    → pairs ++ (name, value) ∷ [] ≡ with_value pairs name value
new_pair pairs name value new = rw new refl

pub old_pair : (pairs : List Pair) (name value : List ℕ) → is_some (value_in pairs name) ≡ true
    → pairs ≡ with_value pairs name value
old_pair pairs name value old = rw old refl

pub seen_push : (pairs : List (Bor (List ℕ) × Bor (List ℕ))) (name value : Bor (List ℕ))
    → seen (pairs ++ (name, value) ∷ []) ≡ seen pairs ++ (name.now, value.now) ∷ []
seen_push pairs name value = map-append (λ (pair : Bor (List ℕ) × Bor (List ℕ)). (pair.0.now, pair.1.now)) pairs ((name, value) ∷ [])

pub seen_length : (pairs : List (Bor (List ℕ) × Bor (List ℕ))) → length (seen pairs) ≡ length pairs
seen_length [] = refl
seen_length (pair ∷ pairs) = ap suc (seen_length pairs)

pub seen_at : (pairs : List (Bor (List ℕ) × Bor (List ℕ))) (place : ℕ) (d : Bor (List ℕ) × Bor (List ℕ)) → get_or (seen pairs) place (d.0.now, d.1.now) ≡ ((get_or pairs place d).0.now, (get_or pairs place d).1.now)
seen_at [] place d = refl
seen_at (pair ∷ pairs) zero d = refl
seen_at (pair ∷ pairs) (suc place) d = seen_at pairs place d

-- what stands for a pair where there is none
abbrev pub no_pair : Bor (List ℕ) × Bor (List ℕ)
no_pair = (record { ref_ptr = (0, 0); now = [] }, record { ref_ptr = (0, 0); now = [] })
