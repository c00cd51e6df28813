-- A table of the places of rows, and the rows.
use Rattle.std.proofs.Common.{◌≡◌, ℕ, zero, suc, ◌+◌, ◌<◌, arith, Bool, true, false, cond, ◌||◌, Option, None, Some, List, [], ◌∷◌, ◌++◌, length, get_or, refl, sym, ◌∙◌, ap}
use Rattle.std.specs.BTreeMap.{BTreeMap, Updates, get}
use Rattle.std.specs.List.{find, list_any, position_from}
use Rattle.std.specs.Option.{is_some}
use Rattle.std.specs.Prelude.{position}
use Rattle.std.proofs.lemmas.Iterator.Adapters.{position_from-zero}
use Rattle.std.proofs.lemmas.List.Quantifiers.{position-Some}
use Rattle.std.proofs.lemmas.Option.{none-some}
use Rattle.res_base.specs.declared.pom.DepRecord.{DepRecord}
use Rattle.row_lists.specs.Keys.{HasPlaces, key_part, key_ties, place_of, row_key_cmp}
use Rattle.row_lists.specs.RowLists.{has_key_of, row_key_eq, with_row}
use Rattle.row_lists.proofs.RowLemmas.{equal_keys}

abbrev place_from : DepRecord → ℕ → List DepRecord → Option ℕ
place_from row start rows = position_from (row_key_eq row) start rows

from_start : (row : DepRecord) (rows : List DepRecord) → place_of row rows ≡ place_from row 0 rows
from_start row rows = position_from-zero (row_key_eq row) rows

-- a row without a place is not found
not_found_from : (row : DepRecord) (start : ℕ) (rows : List DepRecord) → place_from row start rows ≡ None
    → find (row_key_eq row) rows ≡ None
not_found_from row start [] none = refl
not_found_from row start (one ∷ rows) none = at (row_key_eq row one) none (not_found_from row (start + 1) rows)
  where
    at : (b : Bool) → cond b (Some start) (place_from row (start + 1) rows) ≡ None
        → (place_from row (start + 1) rows ≡ None → find (row_key_eq row) rows ≡ None)
        → cond b (Some one) (find (row_key_eq row) rows) ≡ None
    at true e rest = absurd (none-some start (sym e))
    at false e rest = rest e

pub not_found : (row : DepRecord) (rows : List DepRecord) → place_of row rows ≡ None → find (row_key_eq row) rows ≡ None
not_found row rows none = not_found_from row 0 rows (sym (from_start row rows) ∙ none)

found_at : (row : DepRecord) (rows : List DepRecord) (place : ℕ) (d : DepRecord) → place < length rows
    → row_key_eq row (get_or rows place d) ≡ true → ((k : ℕ) → k < place → row_key_eq row (get_or rows k d) ≡ false)
    → find (row_key_eq row) rows ≡ Some (get_or rows place d)
found_at row [] place d within here before = absurd (omega (arith, within))
found_at row (one ∷ rows) zero d within here before = rw here refl
found_at row (one ∷ rows) (suc place) d within here before =
    let later = λ (k : ℕ) (e : k < place). before (suc k) (omega (arith, e)) in
    rw (before zero (omega arith)) (found_at row rows place d (omega (arith, within)) here later)

-- the row at its place is the one that is found
pub found : (row : DepRecord) (rows : List DepRecord) (place : ℕ) (d : DepRecord) → place_of row rows ≡ Some place
    → find (row_key_eq row) rows ≡ Some (get_or rows place d)
found row rows place d e =
    let at = position-Some (row_key_eq row) rows place d e in
    found_at row rows place d at.0 at.1 at.2

pub within : (row : DepRecord) (rows : List DepRecord) (place : ℕ) → place_of row rows ≡ Some place → place < length rows
within row rows place e = (position-Some (row_key_eq row) rows place row e).0

known_from : (row : DepRecord) (start : ℕ) (rows : List DepRecord)
    → is_some (place_from row start rows) ≡ has_key_of row rows
known_from row start [] = refl
known_from row start (one ∷ rows) = at (row_key_eq row one) (known_from row (start + 1) rows)
  where
    at : (b : Bool) → is_some (place_from row (start + 1) rows) ≡ has_key_of row rows
        → is_some (cond b (Some start) (place_from row (start + 1) rows)) ≡ (b || has_key_of row rows)
    at true rest = refl
    at false rest = rest

pub known : (row : DepRecord) (rows : List DepRecord) → is_some (place_of row rows) ≡ has_key_of row rows
known row rows = ap is_some (from_start row rows) ∙ known_from row 0 rows

pub known_by : (rows : List DepRecord) (places : BTreeMap DepRecord ℕ) (row : DepRecord) → HasPlaces rows places
    → is_some (get row_key_cmp places row) ≡ has_key_of row rows
known_by rows places row has = ap is_some (has row) ∙ known row rows

abbrev otherwise : Option ℕ → Option ℕ → Option ℕ
otherwise None other = other
otherwise (Some place) other = Some place

-- the place of a key, or else that of one more row
abbrev place_with : DepRecord → ℕ → List DepRecord → DepRecord → Option ℕ
place_with row start rows last =
    otherwise (place_from row start rows) (cond (row_key_eq row last) (Some (start + length rows)) None)

place_push : (row : DepRecord) (start : ℕ) (rows : List DepRecord) (last : DepRecord)
    → place_from row start (rows ++ last ∷ []) ≡ place_with row start rows last
place_push row start [] last = ap (λ n. cond (row_key_eq row last) (Some n) None) (omega arith)
place_push row start (one ∷ rows) last = at (row_key_eq row one) (place_push row (start + 1) rows last)
  where
    at : (b : Bool) → place_from row (start + 1) (rows ++ last ∷ []) ≡ place_with row (start + 1) rows last
        → cond b (Some start) (place_from row (start + 1) (rows ++ last ∷ []))
        ≡ otherwise (cond b (Some start) (place_from row (start + 1) rows))
        (cond (row_key_eq row last) (Some (start + suc (length rows))) None)
    at true later = refl
    at false later =
        let moved : start + 1 + length rows ≡ start + suc (length rows) = omega arith in
        let is = λ (n : ℕ). cond (row_key_eq row last) (Some n) None in
        later ∙ ap (λ n. otherwise (place_from row (start + 1) rows) (is n)) moved

place_like : (a b : DepRecord) (start : ℕ) (rows : List DepRecord) → row_key_eq a b ≡ true
    → place_from a start rows ≡ place_from b start rows
place_like a b start [] same = refl
place_like a b start (one ∷ rows) same =
    rw (equal_keys.congr a b one same, place_like a b (start + 1) rows same) refl

-- a new row, put last
pub places_push : (rows : List DepRecord) (before after : BTreeMap DepRecord ℕ) (key row : DepRecord)
    → HasPlaces rows before → has_key_of row rows ≡ false → key ≡ key_part row
    → Updates row_key_cmp before after key (Some (length rows)) → HasPlaces (rows ++ row ∷ []) after
places_push rows before after key row places new is updated q =
    let count = length rows in
    let same = row_key_eq key q in
    updated.0 q ∙ ap (λ tied. cond tied (Some count) (get row_key_cmp before q)) (sym (key_ties key q))
    ∙ ap (cond same (Some count)) (places q ∙ from_start q rows)
    ∙ ap (λ k. cond (row_key_eq k q) (Some count) (place_from q 0 rows)) is
    ∙ at (row_key_eq row q) refl
    ∙ sym (place_push q 0 rows row) ∙ sym (from_start q (rows ++ row ∷ []))
  where
    plain : (place : Option ℕ) → place ≡ otherwise place None
    plain None = refl
    plain (Some place) = refl

    none_of : (place : Option ℕ) → is_some place ≡ false → place ≡ None
    none_of None e = refl
    none_of (Some place) e = cc

    at : (b : Bool) → row_key_eq row q ≡ b → cond b (Some (length rows)) (place_from q 0 rows)
        ≡ otherwise (place_from q 0 rows) (cond (row_key_eq q row) (Some (0 + length rows)) None)
    at true same =
        rw (
          sym (place_like row q 0 rows same) ∙ none_of (place_from row 0 rows) (known_from row 0 rows ∙ new),
          equal_keys.symm q row,
          same,
        ) (ap Some (omega arith))
    at false other = rw (equal_keys.symm q row, other) (plain (place_from q 0 rows))

-- the same with a key that is the row itself
pub places_put : (rows : List DepRecord) (before after : BTreeMap DepRecord ℕ) (row : DepRecord) → HasPlaces rows before
    → has_key_of row rows ≡ false → Updates row_key_cmp before after row (Some (length rows))
    → HasPlaces (rows ++ row ∷ []) after
places_put rows before after row places new updated =
    places_push rows before after (key_part row) row places new refl updated

pub no_places : (places : BTreeMap DepRecord ℕ) → places.entries ≡ [] → HasPlaces [] places
no_places places none row = rw none refl

pub new_row : (rows : List DepRecord) (row : DepRecord) → has_key_of row rows ≡ false → rows ++ row ∷ [] ≡ with_row rows row
new_row rows row new = rw new refl

pub old_row : (rows : List DepRecord) (row : DepRecord) → has_key_of row rows ≡ true → rows ≡ with_row rows row
old_row rows row old = rw old refl
