-- The keys that are looked at depend on these keys, and on no other.
use Rattle.std.proofs.Common.{◌≡◌, ℕ, zero, suc, ◌+◌, Bool, true, false, cond, Option, None, Some, List, [], ◌∷◌, ◌++◌, filter, refl, subst, ◌∙◌, ap}
use Rattle.res_base.specs.Builders.{key_of}
use Rattle.res_base.specs.Known.{Known}
use Rattle.res_base.specs.Paths.{pom_path_of}
use Rattle.res_base.specs.Plain.{is_plain_coord}
use Rattle.res_base.specs.declared.coord.Coord.{Coord}
use Rattle.res_base.specs.declared.key.FileKey.{FileKey}
use Rattle.res_base.specs.declared.key.Role.TheVariants as roles
use Rattle.res_base.specs.declared.pom.DepRecord.{DepRecord}
use Rattle.res_base.specs.declared.pom.PomRecord.{PomRecord}
use Rattle.res_base.specs.declared.reading.Reading.{Reading}
use Rattle.project_lookup.specs.Looks.{Looked, found, missing, not_found, look_of, Tried, project, refused, tried}
use Rattle.pom_build.specs.Imports.{import_coord, is_import, managed_rows}
use Rattle.pom_build.specs.Lines.{is_among, is_on, with_parent, line_of}
use Rattle.pom_build.specs.Projects.{project_of}
use Rattle.pom_build.specs.Reads.{Agree, behind_tried, behind_reading, keys_from, look_keys, behind_look, of_next, unless_seen, parent_keys, line_keys, keys_of_all, import_keys, managed_keys, effective_keys}
use Rattle.pom_build.specs.declared.line.Line.{Line}
use Rattle.pom_build.specs.declared.outcome.Outcome.{Outcome}
use Rattle.pom_build.specs.declared.outcome.Outcome.TheVariants.{Built, Needs, NotFound, Refused}
use Rattle.pom_build.proofs.BuildReads.{front, back, look-same, line-same}

both : (a b c d : List FileKey) → a ≡ b → c ≡ d → a ++ c ≡ b ++ d
both a b c d e f = ap (λ first. first ++ c) e ∙ ap (λ second. b ++ second) f

module _ (known other : Known) where
  tried_keys-same : (t : Tried) (xs ys : List FileKey) → (Agree known other xs → ys ≡ xs) → Agree known other (behind_tried t xs) → behind_tried t ys ≡ behind_tried t xs
  tried_keys-same (project pom) xs ys ih h = refl
  tried_keys-same (refused why) xs ys ih h = ih h

  reading_keys-same : (r : Option Reading) (xs ys : List FileKey) → (Agree known other xs → ys ≡ xs) → Agree known other (behind_reading r xs) → behind_reading r ys ≡ behind_reading r xs
  reading_keys-same None xs ys ih h = refl
  reading_keys-same (Some reading) xs ys ih h = tried_keys-same (tried reading) xs ys ih h

  keys_from-same : (path : List ℕ) (left repo : ℕ) → Agree known other (keys_from known path repo left) → keys_from other path repo left ≡ keys_from known path repo left
  keys_from-same path zero repo h = refl
  keys_from-same path (suc left) repo h =
      ap (λ r. key_of repo roles.Pom path ∷ behind_reading r (keys_from other path (repo + 1) left)) h.0
      ∙ ap (λ keys. key_of repo roles.Pom path ∷ keys)
      (reading_keys-same (known (key_of repo roles.Pom path)) (keys_from known path (repo + 1) left) (keys_from other path (repo + 1) left) (keys_from-same path left (repo + 1)) h.1)

  behind_look-same : (u : Looked) (f g : ℕ → PomRecord → List FileKey) → ((repo : ℕ) (pom : PomRecord) → Agree known other (f repo pom) → g repo pom ≡ f repo pom) → Agree known other (behind_look u f) → behind_look u g ≡ behind_look u f
  behind_look-same (found repo pom) f g ih h = ih repo pom h
  behind_look-same (missing key) f g ih h = refl
  behind_look-same (not_found why) f g ih h = refl

  of_next-same : (next : Option Coord) (f g : Coord → List FileKey) → ((c : Coord) → Agree known other (f c) → g c ≡ f c) → Agree known other (of_next next f) → of_next next g ≡ of_next next f
  of_next-same None f g ih h = refl
  of_next-same (Some c) f g ih h = ih c h

  unless_seen-same : (seen : Bool) (f g : Coord → List FileKey) (c : Coord) → (Agree known other (f c) → g c ≡ f c) → Agree known other (unless_seen seen f c) → unless_seen seen g c ≡ unless_seen seen f c
  unless_seen-same true f g c ih h = refl
  unless_seen-same false f g c ih h = ih h

  keys_of_all-same : (f g : Coord → List FileKey) → ((c : Coord) → Agree known other (f c) → g c ≡ f c) → (rows : List DepRecord) → Agree known other (keys_of_all f rows) → keys_of_all g rows ≡ keys_of_all f rows
  keys_of_all-same f g ih [] h = refl
  keys_of_all-same f g ih (row ∷ rows) h =
      both (g (import_coord row)) (f (import_coord row)) (keys_of_all g rows) (keys_of_all f rows) (ih (import_coord row) (front known other (f (import_coord row)) _ h))
      (keys_of_all-same f g ih rows (back known other (f (import_coord row)) _ h))

  import_keys-same : (u : Outcome Line) (f g : Coord → List FileKey) → ((c : Coord) → Agree known other (f c) → g c ≡ f c) → Agree known other (import_keys f u) → import_keys g u ≡ import_keys f u
  import_keys-same (Built line) f g ih h = keys_of_all-same f g ih (filter is_import (managed_rows line)) h
  import_keys-same (Needs keys) f g ih h = refl
  import_keys-same (NotFound why) f g ih h = refl
  import_keys-same (Refused fault) f g ih h = refl

  module _ (repos : ℕ) where
    look_keys-same : (c : Coord) → Agree known other (look_keys known repos c) → look_keys other repos c ≡ look_keys known repos c
    look_keys-same c = at (is_plain_coord c)
      where
        at : (b : Bool) → Agree known other (cond b (keys_from known (pom_path_of c) 0 repos) []) → cond b (keys_from other (pom_path_of c) 0 repos) [] ≡ cond b (keys_from known (pom_path_of c) 0 repos) []
        at true h = keys_from-same (pom_path_of c) repos 0 h
        at false h = refl

    parent_keys-same : (left : ℕ) (line : Line) (next : Option Coord) → Agree known other (parent_keys known repos left line next) → parent_keys other repos left line next ≡ parent_keys known repos left line next
    parent_keys-same zero line next h = refl
    parent_keys-same (suc left) line next h =
        of_next-same next _ _
        (λ c agree.
        unless_seen-same (is_on c line) _ _ c
        (λ here.
        ap (λ u. look_keys other repos c ++ behind_look u (λ repo pom. parent_keys other repos left (with_parent line (project_of c repo pom)) pom.parent)) (look-same known other repos c (front known other (look_keys known repos c) _ here))
        ∙ both (look_keys other repos c) (look_keys known repos c) _ _ (look_keys-same c (front known other (look_keys known repos c) _ here))
        (behind_look-same (look_of known repos c) (λ repo pom. parent_keys known repos left (with_parent line (project_of c repo pom)) pom.parent) (λ repo pom. parent_keys other repos left (with_parent line (project_of c repo pom)) pom.parent)
        (λ repo pom more. parent_keys-same left (with_parent line (project_of c repo pom)) pom.parent more) (back known other (look_keys known repos c) _ here)))
        agree)
        h

    line_keys-same : (c : Coord) → Agree known other (line_keys known repos c) → line_keys other repos c ≡ line_keys known repos c
    line_keys-same c h =
        ap (λ u. look_keys other repos c ++ behind_look u (λ repo pom. parent_keys other repos 31 (record { own = project_of c repo pom; parents = [] }) pom.parent)) (look-same known other repos c (front known other (look_keys known repos c) _ h))
        ∙ both (look_keys other repos c) (look_keys known repos c) _ _ (look_keys-same c (front known other (look_keys known repos c) _ h))
        (behind_look-same (look_of known repos c) (λ repo pom. parent_keys known repos 31 (record { own = project_of c repo pom; parents = [] }) pom.parent)
        (λ repo pom. parent_keys other repos 31 (record { own = project_of c repo pom; parents = [] }) pom.parent)
        (λ repo pom more. parent_keys-same 31 (record { own = project_of c repo pom; parents = [] }) pom.parent more) (back known other (look_keys known repos c) _ h))

    -- a line, and what its imports look at
    whole-same : (c : Coord) (f g : Coord → List FileKey) → ((one : Coord) → Agree known other (f one) → g one ≡ f one) → Agree known other (line_keys known repos c ++ import_keys f (line_of known repos c))
        → line_keys other repos c ++ import_keys g (line_of other repos c) ≡ line_keys known repos c ++ import_keys f (line_of known repos c)
    whole-same c f g ih h =
        ap (λ u. line_keys other repos c ++ import_keys g u) (line-same known other repos c (front known other (line_keys known repos c) _ h))
        ∙ both (line_keys other repos c) (line_keys known repos c) (import_keys g (line_of known repos c)) (import_keys f (line_of known repos c)) (line_keys-same c (front known other (line_keys known repos c) _ h))
        (import_keys-same (line_of known repos c) f g ih (back known other (line_keys known repos c) _ h))

    managed_keys-same : (left : ℕ) (chain : List Coord) (c : Coord) → Agree known other (managed_keys known repos left chain c) → managed_keys other repos left chain c ≡ managed_keys known repos left chain c
    managed_keys-same zero chain c h = refl
    managed_keys-same (suc left) chain c h =
        unless_seen-same (is_among c chain) _ _ c
        (whole-same c (managed_keys known repos left (chain ++ c ∷ [])) (managed_keys other repos left (chain ++ c ∷ [])) (managed_keys-same left (chain ++ c ∷ []))) h

    pub effective_keys-same : (c : Coord) → Agree known other (effective_keys known repos c) → effective_keys other repos c ≡ effective_keys known repos c
    effective_keys-same c h = whole-same c (managed_keys known repos 31 (c ∷ [])) (managed_keys other repos 31 (c ∷ [])) (managed_keys-same 31 (c ∷ [])) h
