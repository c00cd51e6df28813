-- A table of places by their keys, and the list of pairs that it leads into.
use Rattle.std.proofs.Common.{◌≡◌, ℕ, zero, suc, ◌+◌, ◌<◌, arith, Bool, true, false, cond, Option, None, Some, List, [], ◌∷◌, ◌++◌, length, get_or, map, refl, sym, ◌∙◌, ap, rules}
use Rattle.std.specs.BTreeMap.{BTreeMap, IsUnchanged, Updates, get, is_at}
use Rattle.std.specs.Map.{lookup}
use Rattle.std.specs.Cmp.{IsEquivalence}
use Rattle.std.specs.Cmp.Rules.{comparing}
use Rattle.std.specs.List.{list_any, position_from}
use Rattle.std.specs.Ordering.{eq_by_cmp}
use Rattle.std.proofs.lemmas.Iterator.Adapters.{position_from-zero}
use Rattle.std.proofs.lemmas.List.Elements.{All-push}
use Rattle.std.proofs.lemmas.List.{map-append}
use Rattle.std.proofs.lemmas.List.Quantifiers.{position-Some}
use Rattle.std.proofs.lemmas.Map.Keys.{IsDistinct-push}
use Rattle.std.proofs.lemmas.Option.{none-some}
use Rattle.res_base.specs.Known.{known_of}
use Rattle.res_base.specs.Names.{key_eq, key_cmp}
use Rattle.res_base.specs.declared.key.FileKey.{FileKey}
use Rattle.res_base.specs.declared.reading.Reading.{Reading}
use Rattle.project_lookup.specs.KnownPairs.{AreFit, HasPlaces, place_of, stands_at}
use Rattle.res_base.specs.Known.{HasDistinctKeys}

key_laws : IsEquivalence key_eq
key_laws = search (comparing, rules)

key_ties : (a b : FileKey) → key_eq a b ≡ eq_by_cmp key_cmp a b
key_ties = search (comparing, rules)

abbrev is_of : FileKey → FileKey × Reading → Bool
is_of key pair = key_eq pair.0 key

abbrev place_from : FileKey → ℕ → List (FileKey × Reading) → Option ℕ
place_from key start pairs = position_from (is_of key) start pairs

from_start : (key : FileKey) (pairs : List (FileKey × Reading)) → place_of pairs key ≡ place_from key 0 pairs
from_start key pairs = position_from-zero (is_of key) pairs

-- a key without a place is not known
unplaced_from : (key : FileKey) (start : ℕ) (pairs : List (FileKey × Reading)) → place_from key start pairs ≡ None
    → known_of pairs key ≡ None
unplaced_from key start [] none = refl
unplaced_from key start (pair ∷ pairs) none = at (key_eq pair.0 key) none (unplaced_from key (start + 1) pairs)
  where
    at : (b : Bool) → cond b (Some start) (place_from key (start + 1) pairs) ≡ None
        → (place_from key (start + 1) pairs ≡ None → known_of pairs key ≡ None)
        → cond b (Some pair.1) (known_of pairs key) ≡ None
    at true e rest = absurd (none-some start (sym e))
    at false e rest = rest e

pub unplaced : (key : FileKey) (pairs : List (FileKey × Reading)) → place_of pairs key ≡ None
    → known_of pairs key ≡ None
unplaced key pairs none = unplaced_from key 0 pairs (sym (from_start key pairs) ∙ none)

-- a key with a place is known by the pair there
known_at : (key : FileKey) (pairs : List (FileKey × Reading)) (place : ℕ) (d : FileKey × Reading)
    → place < length pairs → is_of key (get_or pairs place d) ≡ true
    → ((k : ℕ) → k < place → is_of key (get_or pairs k d) ≡ false) → known_of pairs key ≡ Some (get_or pairs place d).1
known_at key [] place d within here before = absurd (omega (arith, within))
known_at key (pair ∷ pairs) zero d within here before = rw here refl
known_at key (pair ∷ pairs) (suc place) d within here before =
    let later = λ (k : ℕ) (e : k < place). before (suc k) (omega (arith, e)) in
    rw (before zero (omega arith)) (known_at key pairs place d (omega (arith, within)) here later)

pub known_placed : (key : FileKey) (pairs : List (FileKey × Reading)) (place : ℕ) (d : FileKey × Reading)
    → place_of pairs key ≡ Some place → known_of pairs key ≡ Some (get_or pairs place d).1
known_placed key pairs place d e =
    let found = position-Some (is_of key) pairs place d e in
    known_at key pairs place d found.0 found.1 found.2

unlike_from : (key : FileKey) (start : ℕ) (pairs : List (FileKey × Reading)) → place_from key start pairs ≡ None
    → list_any (key_eq key) (map (λ pair. pair.0) pairs) ≡ false
unlike_from key start [] none = refl
unlike_from key start (pair ∷ pairs) none =
    at (key_eq pair.0 key) (key_laws.symm key pair.0) none (unlike_from key (start + 1) pairs)
  where
    at : (b : Bool) → key_eq key pair.0 ≡ b → cond b (Some start) (place_from key (start + 1) pairs) ≡ None
        → (place_from key (start + 1) pairs ≡ None → list_any (key_eq key) (map (λ p. p.0) pairs) ≡ false)
        → list_any (key_eq key) (map (λ p. p.0) (pair ∷ pairs)) ≡ false
    at true e none rest = absurd (none-some start (sym none))
    at false e none rest = rw e (rest none)

pub fit_push : (repos : ℕ) (pairs : List (FileKey × Reading)) (key : FileKey) (reading : Reading)
    → AreFit repos pairs → key.repo < repos → stands_at reading key.role ≡ true → AreFit repos (pairs ++ (key, reading) ∷ [])
fit_push repos pairs key reading fit within stands =
    All-push (λ (pair : FileKey × Reading). (pair.0.repo < repos) × (stands_at pair.1 pair.0.role ≡ true)) pairs (key, reading)
    fit (within, stands)

pub distinct_push : (pairs : List (FileKey × Reading)) (key : FileKey) (reading : Reading) → HasDistinctKeys pairs
    → place_of pairs key ≡ None → HasDistinctKeys (pairs ++ (key, reading) ∷ [])
distinct_push pairs key reading distinct none =
    let unlike : list_any (key_eq key) (map (λ pair. pair.0) pairs) ≡ false =
    unlike_from key 0 pairs (sym (from_start key pairs) ∙ none) in
    rw (map-append (λ (pair : FileKey × Reading). pair.0) pairs ((key, reading) ∷ []))
    (IsDistinct-push key_laws (map (λ pair. pair.0) pairs) key distinct unlike)

abbrev otherwise : Option ℕ → Option ℕ → Option ℕ
otherwise None other = other
otherwise (Some place) other = Some place

-- the place of a key, or else that of one more pair
abbrev place_with : FileKey → ℕ → List (FileKey × Reading) → FileKey → Option ℕ
place_with key start pairs last = otherwise (place_from key start pairs) (cond (key_eq last key) (Some (start + length pairs)) None)

place_push : (key : FileKey) (start : ℕ) (pairs : List (FileKey × Reading)) (pair : FileKey × Reading)
    → place_from key start (pairs ++ pair ∷ []) ≡ place_with key start pairs pair.0
place_push key start [] pair = ap (λ n. cond (key_eq pair.0 key) (Some n) None) (omega arith)
place_push key start (one ∷ pairs) pair = at (key_eq one.0 key) (place_push key (start + 1) pairs pair)
  where
    at : (b : Bool) → place_from key (start + 1) (pairs ++ pair ∷ []) ≡ place_with key (start + 1) pairs pair.0
        → cond b (Some start) (place_from key (start + 1) (pairs ++ pair ∷ []))
        ≡ otherwise (cond b (Some start) (place_from key (start + 1) pairs))
        (cond (key_eq pair.0 key) (Some (start + suc (length pairs))) None)
    at true later = refl
    at false later =
        let moved : start + 1 + length pairs ≡ start + suc (length pairs) = omega arith in
        let last = λ (n : ℕ). cond (key_eq pair.0 key) (Some n) None in
        later ∙ ap (λ n. otherwise (place_from key (start + 1) pairs) (last n)) moved

place_like : (a b : FileKey) (start : ℕ) (pairs : List (FileKey × Reading)) → key_eq a b ≡ true
    → place_from a start pairs ≡ place_from b start pairs
place_like a b start [] same = refl
place_like a b start (pair ∷ pairs) same =
    rw (key_laws.symm pair.0 a, key_laws.congr a b pair.0 same, key_laws.symm b pair.0, place_like a b (start + 1) pairs same)
    refl

pub places_push :
    (pairs : List (FileKey × Reading)) (before after : BTreeMap FileKey ℕ) (key : FileKey) (reading : Reading)
    → HasPlaces pairs before → place_of pairs key ≡ None → Updates key_cmp before after key (Some (length pairs))
    → HasPlaces (pairs ++ (key, reading) ∷ []) after
places_push pairs before after key reading places none updated q =
    let count = length pairs in
    let same = key_eq key q in
    updated.0 q ∙ ap (λ tied. cond tied (Some count) (get key_cmp before q)) (sym (key_ties key q))
    ∙ ap (cond same (Some count)) (places q ∙ from_start q pairs) ∙ at same refl
    ∙ sym (place_push q 0 pairs (key, reading)) ∙ sym (from_start q (pairs ++ (key, reading) ∷ []))
  where
    plain : (place : Option ℕ) → place ≡ otherwise place None
    plain None = refl
    plain (Some place) = refl

    at : (b : Bool) → key_eq key q ≡ b → cond b (Some (length pairs)) (place_from q 0 pairs)
        ≡ otherwise (place_from q 0 pairs) (cond b (Some (0 + length pairs)) None)
    at true same = rw (sym (place_like key q 0 pairs same) ∙ sym (from_start key pairs) ∙ none) (ap Some (omega arith))
    at false other = plain (place_from q 0 pairs)

pub places_stay : (pairs : List (FileKey × Reading)) (before after : BTreeMap FileKey ℕ) → HasPlaces pairs before
    → IsUnchanged before after → HasPlaces pairs after
places_stay pairs before after places same q = ap (λ entries. lookup (is_at (key_cmp q)) entries) same ∙ places q
