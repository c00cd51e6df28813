-- What a key finds among imported rows.
use Rattle.std.proofs.Common.{◌≡◌, Bool, true, false, cond, ◌||◌, Option, None, Some, List, [], ◌∷◌, ◌++◌, refl, sym, ◌∙◌, ap}
use Rattle.std.specs.List.{IsDistinct, find}
use Rattle.std.specs.Option.{is_some, option_or}
use Rattle.std.proofs.lemmas.Map.Keys.{IsDistinct-push}
use Rattle.res_base.specs.declared.pom.DepRecord.{DepRecord}
use Rattle.row_lists.specs.RowLists.{has_key_of, row_key_eq, with_imported, with_row}
use Rattle.row_lists.proofs.RowLemmas.{equal_keys, one_key}

distinct_put : (rows : List DepRecord) (row : DepRecord) → IsDistinct row_key_eq rows → IsDistinct row_key_eq (with_row rows row)
distinct_put rows row distinct = at (has_key_of row rows) refl
  where
    at : (b : Bool) → has_key_of row rows ≡ b → IsDistinct row_key_eq (cond b rows (rows ++ row ∷ []))
    at true e = distinct
    at false e = IsDistinct-push equal_keys rows row distinct e

pub distinct_imported : (rows more : List DepRecord) → IsDistinct row_key_eq rows → IsDistinct row_key_eq (with_imported rows more)
distinct_imported rows [] distinct = distinct
distinct_imported rows (row ∷ more) distinct = distinct_imported (with_row rows row) more (distinct_put rows row distinct)

found_behind : (row : DepRecord) (rows more : List DepRecord) → find (row_key_eq row) (rows ++ more) ≡ option_or (find (row_key_eq row) rows) (find (row_key_eq row) more)
found_behind row [] more = refl
found_behind row (one ∷ rows) more = at (row_key_eq row one) (found_behind row rows more)
  where
    at : (b : Bool) → find (row_key_eq row) (rows ++ more) ≡ option_or (find (row_key_eq row) rows) (find (row_key_eq row) more)
        → cond b (Some one) (find (row_key_eq row) (rows ++ more)) ≡ option_or (cond b (Some one) (find (row_key_eq row) rows)) (find (row_key_eq row) more)
    at true rest = refl
    at false rest = rest

has_found : (row : DepRecord) (rows : List DepRecord) → is_some (find (row_key_eq row) rows) ≡ has_key_of row rows
has_found row [] = refl
has_found row (one ∷ rows) = at (row_key_eq row one) (has_found row rows)
  where
    at : (b : Bool) → is_some (find (row_key_eq row) rows) ≡ has_key_of row rows
        → is_some (cond b (Some one) (find (row_key_eq row) rows)) ≡ (b || has_key_of row rows)
    at true rest = refl
    at false rest = rest

whole : (first second : Option DepRecord) → is_some first ≡ true → first ≡ option_or first second
whole None second e = cc
whole (Some row) second e = refl

none_after : (first : Option DepRecord) → first ≡ option_or first None
none_after None = refl
none_after (Some row) = refl

found_put : (row : DepRecord) (rows : List DepRecord) (one : DepRecord)
    → find (row_key_eq row) (with_row rows one) ≡ option_or (find (row_key_eq row) rows) (cond (row_key_eq row one) (Some one) None)
found_put row rows one = at (has_key_of one rows) refl (row_key_eq row one) refl
  where
    at : (b : Bool) → has_key_of one rows ≡ b → (same : Bool) → row_key_eq row one ≡ same
        → find (row_key_eq row) (cond b rows (rows ++ one ∷ [])) ≡ option_or (find (row_key_eq row) rows) (cond (row_key_eq row one) (Some one) None)
    at true e true same =
        whole (find (row_key_eq row) rows) (cond (row_key_eq row one) (Some one) None) (has_found row rows ∙ one_key row one same rows ∙ e)
    at true e false same = rw same (none_after (find (row_key_eq row) rows))
    at false e same is = found_behind row rows (one ∷ [])

or_assoc : (a b c : Option DepRecord) → option_or (option_or a b) c ≡ option_or a (option_or b c)
or_assoc None b c = refl
or_assoc (Some row) b c = refl

first_or : (row one : DepRecord) (more : List DepRecord)
    → option_or (cond (row_key_eq row one) (Some one) None) (find (row_key_eq row) more) ≡ find (row_key_eq row) (one ∷ more)
first_or row one more = at (row_key_eq row one)
  where
    at : (b : Bool) → option_or (cond b (Some one) None) (find (row_key_eq row) more) ≡ cond b (Some one) (find (row_key_eq row) more)
    at true = refl
    at false = refl

pub found_imported : (row : DepRecord) (rows more : List DepRecord)
    → find (row_key_eq row) (with_imported rows more) ≡ option_or (find (row_key_eq row) rows) (find (row_key_eq row) more)
found_imported row rows [] = none_after (find (row_key_eq row) rows)
found_imported row rows (one ∷ more) =
    found_imported row (with_row rows one) more
    ∙ ap (λ found. option_or found (find (row_key_eq row) more)) (found_put row rows one)
    ∙ or_assoc (find (row_key_eq row) rows) (cond (row_key_eq row one) (Some one) None) (find (row_key_eq row) more)
    ∙ ap (option_or (find (row_key_eq row) rows)) (first_or row one more)
