-- What is said depends on the keys that are looked at, and on no other.
use Rattle.std.proofs.Common.{◌≡◌, ℕ, zero, suc, ◌+◌, Bool, true, false, not, Option, None, Some, List, [], ◌∷◌, ◌++◌, filter, refl, subst, ◌∙◌, ap}
use Rattle.std.specs.Prelude.{if◌then◌else◌}
use Rattle.res_base.specs.Builders.{key_of}
use Rattle.res_base.specs.Known.{Known}
use Rattle.res_base.specs.Paths.{pom_path_of}
use Rattle.res_base.specs.Plain.{is_plain_coord}
use Rattle.res_base.specs.declared.coord.Coord.{Coord}
use Rattle.res_base.specs.declared.key.FileKey.{FileKey}
use Rattle.res_base.specs.declared.key.Role.TheVariants as roles
use Rattle.res_base.specs.declared.pom.DepRecord.{DepRecord}
use Rattle.res_base.specs.declared.pom.PomRecord.{PomRecord}
use Rattle.res_base.specs.declared.reading.Reading.{Reading}
use Rattle.res_base.specs.declared.reading.Reason.{Reason}
use Rattle.project_lookup.specs.Looks.{Looked, found, missing, not_found, Tried, project, refused, tried, or_later, at_repo, look_from, look_of}
use Rattle.pom_build.specs.Effectives.{effective_in, effective_of}
use Rattle.pom_build.specs.Imports.{import_coord, is_import, merged, import_all, imported, managed_rows, managed_with, managed_from}
use Rattle.pom_build.specs.Lines.{is_among, is_on, with_parent, on_parent, on_look, climbed, line_from, started, line_of}
use Rattle.pom_build.specs.Outcomes.{and_then, unless_met, build_of}
use Rattle.pom_build.specs.Projects.{project_of}
use Rattle.pom_build.specs.Reads.{Agree, behind_tried, behind_reading, keys_from, look_keys, behind_look, of_next, unless_seen, parent_keys, line_keys, keys_of_all, import_keys, managed_keys, effective_keys}
use Rattle.pom_build.specs.declared.build.BuildFault.{BuildFault}
use Rattle.pom_build.specs.declared.build.Effective.{Effective}
use Rattle.pom_build.specs.declared.line.Line.{Line}
use Rattle.pom_build.specs.declared.outcome.Outcome.{Outcome}
use Rattle.pom_build.specs.declared.outcome.Outcome.TheVariants.{Built, Needs, NotFound, Refused}

module _ (known other : Known) where
  pub front : (keys more : List FileKey) → Agree known other (keys ++ more) → Agree known other keys
  front [] more h = tt
  front (key ∷ keys) more h = (h.0, front keys more h.1)

  pub back : (keys more : List FileKey) → Agree known other (keys ++ more) → Agree known other more
  back [] more h = h
  back (key ∷ keys) more h = back keys more h.1

  -- look-ups

  tried-same : (repo : ℕ) (t : Tried) (later : List FileKey) (k l : Reason → Looked) → (Agree known other later → (why : Reason) → l why ≡ k why) → Agree known other (behind_tried t later)
      → or_later repo t l ≡ or_later repo t k
  tried-same repo (project pom) later k l ih h = refl
  tried-same repo (refused why) later k l ih h = ih h why

  reading-same : (key : FileKey) (reading : Option Reading) (later : List FileKey) (k l : Reason → Looked) → (Agree known other later → (why : Reason) → l why ≡ k why) → Agree known other (behind_reading reading later)
      → at_repo key reading l ≡ at_repo key reading k
  reading-same key None later k l ih h = refl
  reading-same key (Some reading) later k l ih h = tried-same key.repo (tried reading) later k l ih h

  look_from-same : (path : List ℕ) (left repo : ℕ) → Agree known other (keys_from known path repo left) → (why : List Reason) → look_from other path repo left why ≡ look_from known path repo left why
  look_from-same path zero repo h why = refl
  look_from-same path (suc left) repo h why =
      ap (λ reading. at_repo (key_of repo roles.Pom path) reading (λ reason. look_from other path (repo + 1) left (why ++ reason ∷ []))) h.0
      ∙ reading-same (key_of repo roles.Pom path) (known (key_of repo roles.Pom path)) (keys_from known path (repo + 1) left)
      (λ reason. look_from known path (repo + 1) left (why ++ reason ∷ [])) (λ reason. look_from other path (repo + 1) left (why ++ reason ∷ []))
      (λ later reason. look_from-same path left (repo + 1) later (why ++ reason ∷ [])) h.1

  pub look-same : (repos : ℕ) (c : Coord) → Agree known other (look_keys known repos c) → look_of other repos c ≡ look_of known repos c
  look-same repos c = by (is_plain_coord c) refl
    where
      by : (b : Bool) → is_plain_coord c ≡ b → Agree known other (look_keys known repos c) → look_of other repos c ≡ look_of known repos c
      by true e h = rw e (look_from-same (pom_path_of c) repos 0 (subst (λ b. Agree known other (if b then keys_from known (pom_path_of c) 0 repos else [])) e h) [])
      by false e h = rw e refl

  -- what goes on from a look-up, a parent, a coordinate that was not met, a part that is built

  started-same : (u : Looked) (keys : ℕ → PomRecord → List FileKey) (c : Coord) (k l : Line → Option Coord → Outcome Line)
      → ((repo : ℕ) (pom : PomRecord) → Agree known other (keys repo pom) → l (record { own = project_of c repo pom; parents = [] }) pom.parent ≡ k (record { own = project_of c repo pom; parents = [] }) pom.parent)
      → Agree known other (behind_look u keys) → started u c l ≡ started u c k
  started-same (found repo pom) keys c k l ih h = ih repo pom h
  started-same (missing key) keys c k l ih h = refl
  started-same (not_found why) keys c k l ih h = refl

  on_look-same : (u : Looked) (keys : ℕ → PomRecord → List FileKey) (line : Line) (c : Coord) (k l : Line → Option Coord → Outcome Line)
      → ((repo : ℕ) (pom : PomRecord) → Agree known other (keys repo pom) → l (with_parent line (project_of c repo pom)) pom.parent ≡ k (with_parent line (project_of c repo pom)) pom.parent)
      → Agree known other (behind_look u keys) → on_look u line c l ≡ on_look u line c k
  on_look-same (found repo pom) keys line c k l ih h = ih repo pom h
  on_look-same (missing key) keys line c k l ih h = refl
  on_look-same (not_found why) keys line c k l ih h = refl

  on_parent-same : (next : Option Coord) (keys : Coord → List FileKey) (line : Line) (k l : Coord → Outcome Line) → ((c : Coord) → Agree known other (keys c) → l c ≡ k c) → Agree known other (of_next next keys)
      → on_parent next line l ≡ on_parent next line k
  on_parent-same None keys line k l ih h = refl
  on_parent-same (Some c) keys line k l ih h = ih c h

  unless_met-same : {A : Type 0} (met : Bool) (fault : BuildFault) (keys : Coord → List FileKey) (c : Coord) (k l : Coord → Outcome A) → (Agree known other (keys c) → l c ≡ k c) → Agree known other (unless_seen met keys c)
      → unless_met met fault l c ≡ unless_met met fault k c
  unless_met-same true fault keys c k l ih h = refl
  unless_met-same false fault keys c k l ih h = ih h

  -- lines

  module _ (repos : ℕ) where
    line_from-same : (left : ℕ) (line : Line) (next : Option Coord) → Agree known other (parent_keys known repos left line next) → line_from other repos left line next ≡ line_from known repos left line next
    line_from-same zero line next h = refl
    line_from-same (suc left) line next h =
        on_parent-same next _ line (climbed known repos line (line_from known repos left)) (climbed other repos line (line_from other repos left))
        (λ c agree.
        unless_met-same (is_on c line) _ _ c
        (λ parent. on_look (look_of known repos parent) line parent (line_from known repos left)) (λ parent. on_look (look_of other repos parent) line parent (line_from other repos left))
        (λ here.
        ap (λ looked. on_look looked line c (line_from other repos left)) (look-same repos c (front (look_keys known repos c) _ here))
        ∙ on_look-same (look_of known repos c) _ line c (line_from known repos left) (line_from other repos left)
        (λ repo pom more. line_from-same left (with_parent line (project_of c repo pom)) pom.parent more) (back (look_keys known repos c) _ here))
        agree)
        h

    pub line-same : (c : Coord) → Agree known other (line_keys known repos c) → line_of other repos c ≡ line_of known repos c
    unfolding line_of
    line-same c h =
        ap (λ looked. started looked c (line_from other repos 31)) (look-same repos c (front (look_keys known repos c) _ h))
        ∙ started-same (look_of known repos c) _ c (line_from known repos 31) (line_from other repos 31)
        (λ repo pom more. line_from-same 31 (record { own = project_of c repo pom; parents = [] }) pom.parent more) (back (look_keys known repos c) _ h)

    -- imports

    imports-same : (keys : Coord → List FileKey) (k l : Coord → Outcome (List DepRecord)) → ((c : Coord) → Agree known other (keys c) → l c ≡ k c)
        → (rows : List DepRecord) (so_far : Outcome (List DepRecord)) → Agree known other (keys_of_all keys rows) → import_all l so_far rows ≡ import_all k so_far rows
    imports-same keys k l ih [] so_far h = refl
    imports-same keys k l ih (row ∷ rows) so_far h =
        ap (λ next. import_all l (merged so_far next) rows) (ih (import_coord row) (front (keys (import_coord row)) _ h))
        ∙ imports-same keys k l ih rows (merged so_far (k (import_coord row))) (back (keys (import_coord row)) _ h)

    managed_with-same : (keys : Coord → List FileKey) (k l : Coord → Outcome (List DepRecord)) → ((c : Coord) → Agree known other (keys c) → l c ≡ k c)
        → (line : Line) → Agree known other (import_keys keys (Built line)) → managed_with l line ≡ managed_with k line
    managed_with-same keys k l ih line h = imports-same keys k l ih (filter is_import (managed_rows line)) (Built (filter (λ row. not (is_import row)) (managed_rows line))) h

    on_line-same : {B : Type 0} (keys : Coord → List FileKey) (u : Outcome Line) (k l : Line → Outcome B) → ((line : Line) → Agree known other (import_keys keys (Built line)) → l line ≡ k line)
        → Agree known other (import_keys keys u) → and_then u l ≡ and_then u k
    on_line-same keys (Built line) k l ih h = ih line h
    on_line-same keys (Needs more) k l ih h = refl
    on_line-same keys (NotFound why) k l ih h = refl
    on_line-same keys (Refused fault) k l ih h = refl

    on_imported-same : {B : Type 0} (keys : Coord → List FileKey) (c : Coord) (u : Outcome Line) (k l : Line → Outcome B) → ((line : Line) → Agree known other (import_keys keys (Built line)) → l line ≡ k line)
        → Agree known other (import_keys keys u) → and_then (imported c u) l ≡ and_then (imported c u) k
    on_imported-same keys c (Built line) k l ih h = ih line h
    on_imported-same keys c (Needs more) k l ih h = refl
    on_imported-same keys c (NotFound why) k l ih h = refl
    on_imported-same keys c (Refused fault) k l ih h = refl

    managed_from-same : (left : ℕ) (chain : List Coord) (c : Coord) → Agree known other (managed_keys known repos left chain c) → managed_from other repos left chain c ≡ managed_from known repos left chain c
    managed_from-same zero chain c h = refl
    managed_from-same (suc left) chain c h =
        unless_met-same (is_among c chain) _ _ c
        (λ one. and_then (imported one (line_of known repos one)) (managed_with (managed_from known repos left (chain ++ one ∷ []))))
        (λ one. and_then (imported one (line_of other repos one)) (managed_with (managed_from other repos left (chain ++ one ∷ []))))
        (λ here.
        ap (λ line. and_then (imported c line) (managed_with (managed_from other repos left (chain ++ c ∷ [])))) (line-same c (front (line_keys known repos c) _ here))
        ∙ on_imported-same (managed_keys known repos left (chain ++ c ∷ [])) c (line_of known repos c)
        (managed_with (managed_from known repos left (chain ++ c ∷ []))) (managed_with (managed_from other repos left (chain ++ c ∷ [])))
        (managed_with-same (managed_keys known repos left (chain ++ c ∷ [])) (managed_from known repos left (chain ++ c ∷ [])) (managed_from other repos left (chain ++ c ∷ [])) (managed_from-same left (chain ++ c ∷ [])))
        (back (line_keys known repos c) _ here))
        h

    abbrev rest : Known → Coord → Line → Outcome Effective
    rest map c line = and_then (managed_with (managed_from map repos 31 (c ∷ [])) line) (λ managed. Built (effective_in line managed))

    pub effective-same : (c : Coord) → Agree known other (effective_keys known repos c) → effective_of other repos c ≡ effective_of known repos c
    unfolding effective_of
    effective-same c h =
        ap (λ line. build_of (and_then line (rest other c))) (line-same c (front (line_keys known repos c) _ h))
        ∙ ap build_of
        (on_line-same (managed_keys known repos 31 (c ∷ [])) (line_of known repos c) (rest known c) (rest other c)
        (λ line more.
        ap (λ managed. and_then managed (λ rows. Built (effective_in line rows)))
        (managed_with-same (managed_keys known repos 31 (c ∷ [])) (managed_from known repos 31 (c ∷ [])) (managed_from other repos 31 (c ∷ [])) (managed_from-same 31 (c ∷ [])) line more))
        (back (line_keys known repos c) _ h))
