-- What holds of the lists of a job.
use Rattle.std.proofs.Common.{◌≡◌, ℕ, Bool, true, false, ◌&&◌, not, cond, List, [], ◌∷◌, ◌++◌, Option, Some, None, Ok, refl, subst, append_assoc, append-nil}
use Rattle.std.specs.List.{list_all}
use Rattle.std.proofs.lemmas.Bool.{and_from, and_parts}
use Rattle.res_base.specs.CoordReader.{coord_in}
use Rattle.res_base.specs.declared.coord.Coord.{Coord}
use Rattle.word_values.specs.Coordinates.{coord_where, forced_in, has_module, is_constraint, is_preferred, root_in}
use Rattle.word_values.specs.Fits.{modules_apart, modules_apart_after}
use Rattle.word_values.specs.Members.{list_given}
use Rattle.word_values.specs.Split.{members_of}
use Rattle.word_values.specs.declared.refusals.WordKind.TheVariants as kind
use Rattle.word_values.proofs.Kept.{kept}

pub all_more : {A : Type 0} (passes : A → Bool) (xs : List A) (x : A) → list_all passes xs ≡ true → passes x ≡ true → list_all passes (xs ++ x ∷ []) ≡ true
all_more passes [] x e h = rw h refl
all_more passes (y ∷ xs) x e h =
    let parts = and_parts (passes y) (list_all passes xs) e in
    and_from (passes y) (list_all passes (xs ++ x ∷ [])) parts.0 (all_more passes xs x parts.1 h)

-- what was read passes the test
pub passes_where : (passes : Coord → Bool) (read : Option Coord) (coord : Coord) → coord_where passes read ≡ Some coord → passes coord ≡ true
passes_where passes None coord e = let no : ⊥ = cc in absurd no
passes_where passes (Some c) coord e = go (passes c) refl e
  where
    go : (b : Bool) → passes c ≡ b → cond b (Some c) None ≡ Some coord → passes coord ≡ true
    go true q s = let same : c ≡ coord = cc in subst (λ x. passes x ≡ true) same q
    go false q s = let no : ⊥ = cc in absurd no

pub apart_more : (seen xs : List Coord) (coord : Coord) → modules_apart_after seen xs ≡ true → not (has_module (seen ++ xs) coord.«module») ≡ true → modules_apart_after seen (xs ++ coord ∷ []) ≡ true
apart_more seen [] coord e h = and_from (not (has_module seen coord.«module»)) true (rw append-nil at h) refl
apart_more seen (x ∷ xs) coord e h =
    let parts = and_parts (not (has_module seen x.«module»)) (modules_apart_after (seen ++ x ∷ []) xs) e in
    and_from (not (has_module seen x.«module»)) (modules_apart_after (seen ++ x ∷ []) (xs ++ coord ∷ [])) parts.0 (apart_more (seen ++ x ∷ []) xs coord parts.1 (rw append_assoc h))

-- forced versions
abbrev pub AreForced : List Coord → Type 0
AreForced coords = (list_all (λ coord. is_preferred coord.version) coords ≡ true) × (modules_apart coords ≡ true)

forced_step : (before : List Coord) (text : List ℕ) (is_last : Bool) (coord : Coord) → AreForced before → forced_in before text is_last ≡ Some coord → AreForced (before ++ coord ∷ [])
forced_step before text is_last coord h e =
    let passes : is_preferred coord.version && not (has_module before coord.«module») ≡ true =
    passes_where (λ c. is_preferred c.version && not (has_module before c.«module»)) (coord_in text) coord e in
    let parts = and_parts (is_preferred coord.version) (not (has_module before coord.«module»)) passes in
    (all_more (λ c. is_preferred c.version) before coord h.0 parts.0, apart_more [] before coord h.1 parts.1)

pub are_forced : (text : Option (List ℕ)) (coords : List Coord) → list_given kind.Force forced_in text ≡ Ok coords → AreForced coords
are_forced None coords e = let same : [] ≡ coords = cc in subst AreForced same (refl, refl)
are_forced (Some text) coords e = kept kind.Force forced_in AreForced forced_step (members_of text) [] coords (refl, refl) e

-- roots
abbrev pub AreRoots : List Coord → Type 0
AreRoots coords = list_all (λ coord. is_constraint coord.version) coords ≡ true

pub root_step : (before : List Coord) (text : List ℕ) (is_last : Bool) (coord : Coord) → AreRoots before → root_in before text is_last ≡ Some coord → AreRoots (before ++ coord ∷ [])
root_step before text is_last coord h e =
    all_more (λ c. is_constraint c.version) before coord h (passes_where (λ c. is_constraint c.version) (coord_in text) coord e)
