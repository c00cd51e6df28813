-- The row at the first place of a URL holds what the world holds there.
use Rattle.std.proofs.Common.{◌≡◌, ℕ, ◌+◌, Bool, true, false, if◌then◌else◌, List, [], ◌∷◌, ◌++◌, length, Option, Some, refl, append_assoc, length-append, arith}
use Rattle.std.specs.Prelude.{slice_get}
use Rattle.res_base.specs.Names.{text_eq}
use Rattle.res_base.specs.World.{at}
use Rattle.res_base.specs.declared.world.WorldRow.{WorldRow}
use Rattle.link_base.specs.UrlPlaces.{place_from, bytes_at}

either : (b : Bool) (all : List WorldRow) (place : ℕ) (later : Option ℕ) (bytes : List ℕ) (rest : Option (List ℕ))
    → bytes_at all (Some place) ≡ Some bytes → bytes_at all later ≡ rest
    → bytes_at all (if b then Some place else later) ≡ (if b then Some bytes else rest)
either true all place later bytes rest p q = p
either false all place later bytes rest p q = q

get_after : (done : List WorldRow) (row : WorldRow) (rest : List WorldRow)
    → slice_get (done ++ (row ∷ rest)) (length done) ≡ Some row
get_after [] row rest = refl
get_after (first ∷ done) row rest = get_after done row rest

found_after : (done rows : List WorldRow) (url : List ℕ)
    → bytes_at (done ++ rows) (place_from (length done) rows url) ≡ at rows url
found_after done [] url = refl
found_after done (row ∷ rows) url =
    let one_more : length (done ++ (row ∷ [])) ≡ length done + 1 = omega (arith, length-append done (row ∷ [])) in
    let later : bytes_at (done ++ (row ∷ rows)) (place_from (length done + 1) rows url) ≡ at rows url =
    rw (← one_more, ← append_assoc done (row ∷ []) rows) (found_after (done ++ (row ∷ [])) rows url) in
    either (text_eq row.url url) (done ++ (row ∷ rows)) (length done) (place_from (length done + 1) rows url) row.bytes
    (at rows url) (rw (get_after done row rows) refl) later

pub bytes_at-place_from : (rows : List WorldRow) (url : List ℕ) → bytes_at rows (place_from 0 rows url) ≡ at rows url
bytes_at-place_from rows url = found_after [] rows url
