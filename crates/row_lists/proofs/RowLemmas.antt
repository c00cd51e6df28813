-- Rows put into a set from the back, and lists joined.
use Rattle.std.proofs.Common.{◌≡◌, Bool, true, false, cond, ◌||◌, List, [], ◌∷◌, ◌++◌, filter, map, reverse, refl, sym, true≢false, ◌∙◌, ap, append_assoc, append-nil, rules}
use Rattle.std.specs.Cmp.{IsEquivalence}
use Rattle.std.specs.Cmp.Rules.{comparing}
use Rattle.std.specs.List.{IsDistinct, list_any}
use denote.Ref.{Bor}
use Rattle.std.proofs.lemmas.List.{map-append, reverse-append}
use Rattle.std.proofs.lemmas.List.Folds.{list_any-append}
use Rattle.std.proofs.lemmas.List.Sums.{fold-append}
use Rattle.res_base.specs.declared.pom.DepRecord.{DepRecord}
use Rattle.row_lists.specs.RowLists.{row_key_eq, has_key_of, last_of_key, overridden, joined, with_imported, with_row}

pub equal_keys : IsEquivalence row_key_eq
equal_keys = search (comparing, rules)

list_any-same : {X : Type 0} (p q : X → Bool) → ((x : X) → p x ≡ q x) → (xs : List X) → list_any p xs ≡ list_any q xs
list_any-same p q same [] = refl
list_any-same p q same (x ∷ xs) = rw (same x, list_any-same p q same xs) refl

-- rows with one key are among the same rows
pub one_key : (a b : DepRecord) → row_key_eq a b ≡ true → (rows : List DepRecord) → has_key_of a rows ≡ has_key_of b rows
one_key a b e rows = list_any-same (row_key_eq a) (row_key_eq b) (λ row. equal_keys.congr a b row e) rows

has_key_of-last_of_key : (row : DepRecord) (rows : List DepRecord) → has_key_of row (last_of_key rows) ≡ has_key_of row rows
has_key_of-last_of_key row [] = refl
has_key_of-last_of_key row (first ∷ rows) = at (has_key_of first rows) refl (has_key_of-last_of_key row rows)
  where
    same : (b : Bool) → row_key_eq row first ≡ b → has_key_of first rows ≡ true → has_key_of row rows ≡ (b || has_key_of row rows)
    same true e later = one_key row first e rows ∙ later
    same false e later = refl

    at : (b : Bool) → has_key_of first rows ≡ b → has_key_of row (last_of_key rows) ≡ has_key_of row rows
        → has_key_of row (cond b (last_of_key rows) (first ∷ last_of_key rows)) ≡ (row_key_eq row first || has_key_of row rows)
    at true later rest = rest ∙ same (row_key_eq row first) refl later
    at false later rest = ap (λ b. row_key_eq row first || b) rest

-- two lists joined, and their rows one behind the other
pub last_of_key-append : (earlier later : List DepRecord) → overridden (last_of_key earlier) (last_of_key later) ≡ last_of_key (earlier ++ later)
last_of_key-append [] later = refl
last_of_key-append (row ∷ earlier) later =
    at (has_key_of row earlier) (has_key_of row later) (has_key_of-last_of_key row later) (last_of_key-append earlier later)
    ∙ ap (λ b. cond b (last_of_key (earlier ++ later)) (row ∷ last_of_key (earlier ++ later))) (sym (list_any-append (row_key_eq row) earlier later))
  where
    at : (a b : Bool) → has_key_of row (last_of_key later) ≡ b → overridden (last_of_key earlier) (last_of_key later) ≡ last_of_key (earlier ++ later)
        → overridden (cond a (last_of_key earlier) (row ∷ last_of_key earlier)) (last_of_key later) ≡ cond (a || b) (last_of_key (earlier ++ later)) (row ∷ last_of_key (earlier ++ later))
    at true b e rest = rest
    at false true e rest = rw e rest
    at false false e rest = rw e (ap (λ rows. row ∷ rows) rest)

-- lists one behind the other, the last first
abbrev pub front_of : List (List DepRecord) → List DepRecord
front_of [] = []
front_of (rows ∷ lists) = front_of lists ++ rows

-- the same, from the back
abbrev pub back_of : List (List DepRecord) → List DepRecord
back_of [] = []
back_of (rows ∷ lists) = reverse rows ++ back_of lists

back_of-reverse : (lists : List (List DepRecord)) → back_of lists ≡ reverse (front_of lists)
back_of-reverse [] = refl
back_of-reverse (rows ∷ lists) = ap (λ back. reverse rows ++ back) (back_of-reverse lists) ∙ sym (reverse-append (front_of lists) rows)

joined-front_of : (lists : List (List DepRecord)) → joined lists ≡ last_of_key (front_of lists)
joined-front_of [] = refl
joined-front_of (rows ∷ lists) = ap (λ parents. overridden parents (last_of_key rows)) (joined-front_of lists) ∙ last_of_key-append (front_of lists) rows

list_any-reverse : {X : Type 0} (p : X → Bool) (xs : List X) → list_any p (reverse xs) ≡ list_any p xs
list_any-reverse p [] = refl
list_any-reverse p (x ∷ xs) = ap (list_any p) (reverse-append (x ∷ []) xs) ∙ list_any-append p (reverse xs) (x ∷ []) ∙ rw (list_any-reverse p xs) (turned (p x) (list_any p xs))
  where
    turned : (a b : Bool) → (b || (a || false)) ≡ (a || b)
    turned true true = refl
    turned true false = refl
    turned false true = refl
    turned false false = refl

-- a set filled from the back has the last rows of each key
pub with_imported-reverse : (rows : List DepRecord) → with_imported [] (reverse rows) ≡ reverse (last_of_key rows)
with_imported-reverse [] = refl
with_imported-reverse (row ∷ rows) =
    ap (with_imported []) (reverse-append (row ∷ []) rows) ∙ fold-append with_row [] (reverse rows) (row ∷ []) ∙ ap (λ keys. with_row keys row) (with_imported-reverse rows)
    ∙ at (has_key_of row rows) (list_any-reverse (row_key_eq row) (last_of_key rows) ∙ has_key_of-last_of_key row rows)
  where
    at : (b : Bool) → has_key_of row (reverse (last_of_key rows)) ≡ b
        → with_row (reverse (last_of_key rows)) row ≡ reverse (cond b (last_of_key rows) (row ∷ last_of_key rows))
    at true e = rw e refl
    at false e = rw e (sym (reverse-append (row ∷ []) (last_of_key rows)))

pub with_imported-back_of : (lists : List (List DepRecord)) → with_imported [] (back_of lists) ≡ reverse (joined lists)
with_imported-back_of lists = ap (with_imported []) (back_of-reverse lists) ∙ with_imported-reverse (front_of lists) ∙ ap reverse (sym (joined-front_of lists))

-- no row has the key of another
AreApart : List DepRecord → Type 0
AreApart [] = Unit {0}
AreApart (row ∷ rows) = (has_key_of row rows ≡ false) × AreApart rows

last_of_key-apart : (rows : List DepRecord) → AreApart (last_of_key rows)
unfolding AreApart
last_of_key-apart [] = tt
last_of_key-apart (row ∷ rows) = at (has_key_of row rows) refl (last_of_key-apart rows)
  where
    at : (b : Bool) → has_key_of row rows ≡ b → AreApart (last_of_key rows) → AreApart (cond b (last_of_key rows) (row ∷ last_of_key rows))
    at true e rest = rest
    at false e rest = (has_key_of-last_of_key row rows ∙ e, rest)

or_false : (a b : Bool) → (a || b) ≡ false → (a ≡ false) × (b ≡ false)
or_false true b e = absurd (true≢false e)
or_false false b e = (refl, e)

none_filtered : (chosen : DepRecord → Bool) (row : DepRecord) (rows : List DepRecord) → has_key_of row rows ≡ false → has_key_of row (filter chosen rows) ≡ false
none_filtered chosen row [] e = refl
none_filtered chosen row (first ∷ rows) e =
    at (chosen first) (or_false (row_key_eq row first) (has_key_of row rows) e) (none_filtered chosen row rows (or_false (row_key_eq row first) (has_key_of row rows) e).1)
  where
    at : (b : Bool) → (row_key_eq row first ≡ false) × (has_key_of row rows ≡ false) → has_key_of row (filter chosen rows) ≡ false → has_key_of row (cond b (first ∷ filter chosen rows) (filter chosen rows)) ≡ false
    at true apart rest = rw apart.0 rest
    at false apart rest = rest

filter-apart : (chosen : DepRecord → Bool) (rows : List DepRecord) → AreApart rows → AreApart (filter chosen rows)
unfolding AreApart
filter-apart chosen [] apart = tt
filter-apart chosen (row ∷ rows) apart = at (chosen row) (none_filtered chosen row rows apart.0) (filter-apart chosen rows apart.1)
  where
    at : (b : Bool) → has_key_of row (filter chosen rows) ≡ false → AreApart (filter chosen rows) → AreApart (cond b (row ∷ filter chosen rows) (filter chosen rows))
    at true here rest = (here, rest)
    at false here rest = rest

-- no row of the first list has a key of the second
abbrev meets : List DepRecord → List DepRecord → Bool
meets rows more = list_any (λ row. has_key_of row more) rows

-- what no row meets has no key among them
not_met : (row : DepRecord) (rows more : List DepRecord) → meets rows (row ∷ more) ≡ false → (has_key_of row rows ≡ false) × (meets rows more ≡ false)
not_met row [] more e = (refl, refl)
not_met row (first ∷ rows) more e =
    let parts = or_false (row_key_eq first row || has_key_of first more) (meets rows (row ∷ more)) e in
    let firsts = or_false (row_key_eq first row) (has_key_of first more) parts.0 in
    let rest = not_met row rows more parts.1 in
    (rw (equal_keys.symm row first, firsts.0) rest.0, rw firsts.1 rest.1)

new_rows : (rows more : List DepRecord) → AreApart more → meets rows more ≡ false → with_imported rows more ≡ rows ++ more
unfolding AreApart
new_rows rows [] apart e = sym (append-nil rows)
new_rows rows (row ∷ more) apart e =
    let parts = not_met row rows more e in
    let after : meets (rows ++ row ∷ []) more ≡ false = list_any-append (λ one. has_key_of one more) rows (row ∷ []) ∙ rw (parts.1, apart.0) refl in
    rw parts.0 (new_rows (rows ++ row ∷ []) more apart.1 after ∙ append_assoc rows (row ∷ []) more)

pub with_imported-last : (chosen : DepRecord → Bool) (rows : List DepRecord) → with_imported [] (filter chosen (last_of_key rows)) ≡ filter chosen (last_of_key rows)
with_imported-last chosen rows = new_rows [] (filter chosen (last_of_key rows)) (filter-apart chosen (last_of_key rows) (last_of_key-apart rows)) refl

pub seen_reverse : (rows : List (Bor DepRecord)) → map (λ row. row.now) (reverse rows) ≡ reverse (map (λ row. row.now) rows)
seen_reverse [] = refl
seen_reverse (row ∷ rows) =
    ap (map (λ one. one.now)) (reverse-append (row ∷ []) rows) ∙ map-append (λ (one : Bor DepRecord). one.now) (reverse rows) (row ∷ [])
    ∙ ap (λ made. made ++ row.now ∷ []) (seen_reverse rows) ∙ sym (reverse-append (row.now ∷ []) (map (λ one. one.now) rows))

pub none_alike : IsDistinct row_key_eq []
unfolding IsDistinct
none_alike = tt
