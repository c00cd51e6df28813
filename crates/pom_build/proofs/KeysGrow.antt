-- More keys are looked at when more is known.
use Rattle.std.proofs.Common.{◌≡◌, ℕ, zero, suc, ◌+◌, ⊎_elim, Bool, true, false, cond, Option, None, Some, List, [], ◌∷◌, ◌++◌, filter, refl, arith}
use Rattle.std.specs.Prelude.{Contains}
use Rattle.std.proofs.lemmas.List.Elements.{Contains-append_left, Contains-append_right, Contains-append_cases}
use Rattle.res_base.specs.Builders.{key_of}
use Rattle.res_base.specs.Known.{Known, Grows}
use Rattle.res_base.specs.Paths.{pom_path_of}
use Rattle.res_base.specs.Plain.{is_plain_coord}
use Rattle.res_base.specs.declared.coord.Coord.{Coord}
use Rattle.res_base.specs.declared.key.FileKey.{FileKey}
use Rattle.res_base.specs.declared.key.Role.TheVariants as roles
use Rattle.res_base.specs.declared.pom.DepRecord.{DepRecord}
use Rattle.res_base.specs.declared.pom.PomRecord.{PomRecord}
use Rattle.res_base.specs.declared.reading.Reading.{Reading}
use Rattle.project_lookup.specs.Looks.{Looked, found, missing, not_found, is_missing, look_of, Tried, project, refused, tried}
use Rattle.pom_build.specs.Imports.{import_coord, is_import, managed_rows}
use Rattle.pom_build.specs.Lines.{is_among, is_on, with_parent, line_of}
use Rattle.pom_build.specs.Projects.{project_of}
use Rattle.pom_build.specs.Reads.{behind_tried, behind_reading, keys_from, look_keys, behind_look, of_next, unless_seen, parent_keys, line_keys, keys_of_all, import_keys, managed_keys, effective_keys}
use Rattle.pom_build.specs.declared.line.Line.{Line}
use Rattle.pom_build.specs.declared.outcome.Outcome.{Outcome}
use Rattle.pom_build.specs.declared.outcome.Outcome.TheVariants.{Built, Needs, NotFound, Refused}
use Rattle.pom_build.proofs.BuildGrows.{Stays, line_of-stays}

-- each key of the first is among the second
pub record Within (few many : List FileKey) : Type 0 where
  pub each : (key : FileKey) → Contains few key → Contains many key

nothing : (keys : List FileKey) → Within [] keys
nothing keys = record { each = λ key h. absurd (omega (arith, h.1)) }

itself : (keys : List FileKey) → Within keys keys
itself keys = record { each = λ key h. h }

appended : (a b c d : List FileKey) → Within a c → Within b d → Within (a ++ b) (c ++ d)
appended a b c d first second =
    record {
      each = λ key h. ⊎_elim (λ here. Contains-append_left c d key (first.each key here)) (λ there. Contains-append_right c d key (second.each key there)) (Contains-append_cases a b key h);
    }

within_look : (u v : Looked) → (is_missing u ≡ false → v ≡ u) → (f g : ℕ → PomRecord → List FileKey) → ((repo : ℕ) (pom : PomRecord) → Within (f repo pom) (g repo pom)) → Within (behind_look u f) (behind_look v g)
within_look (found repo pom) v h f g ih = rw (h refl) (ih repo pom)
within_look (missing key) v h f g ih = nothing _
within_look (not_found why) v h f g ih = nothing _

within_next : (next : Option Coord) (f g : Coord → List FileKey) → ((c : Coord) → Within (f c) (g c)) → Within (of_next next f) (of_next next g)
within_next None f g ih = nothing []
within_next (Some c) f g ih = ih c

within_unless : (seen : Bool) (f g : Coord → List FileKey) (c : Coord) → Within (f c) (g c) → Within (unless_seen seen f c) (unless_seen seen g c)
within_unless true f g c h = nothing []
within_unless false f g c h = h

within_all : (f g : Coord → List FileKey) → ((c : Coord) → Within (f c) (g c)) → (rows : List DepRecord) → Within (keys_of_all f rows) (keys_of_all g rows)
within_all f g ih [] = nothing []
within_all f g ih (row ∷ rows) = appended (f (import_coord row)) (keys_of_all f rows) (g (import_coord row)) (keys_of_all g rows) (ih (import_coord row)) (within_all f g ih rows)

within_imports : (u v : Outcome Line) → Stays u v → (f g : Coord → List FileKey) → ((c : Coord) → Within (f c) (g c)) → Within (import_keys f u) (import_keys g v)
within_imports (Built line) v h f g ih = rw (h.same refl) (within_all f g ih (filter is_import (managed_rows line)))
within_imports (Needs keys) v h f g ih = nothing _
within_imports (NotFound why) v h f g ih = nothing _
within_imports (Refused fault) v h f g ih = nothing _

module _ (before after : Known) (repos : ℕ) (grows : Grows before after) (looks : (c : Coord) → is_missing (look_of before repos c) ≡ false → look_of after repos c ≡ look_of before repos c) where
  within_from : (path : List ℕ) (left repo : ℕ) → Within (keys_from before path repo left) (keys_from after path repo left)
  within_from path zero repo = nothing []
  within_from path (suc left) repo = at (before (key_of repo roles.Pom path)) refl (within_from path left (repo + 1))
    where
      by : (t : Tried) → Within (keys_from before path (repo + 1) left) (keys_from after path (repo + 1) left)
          → Within (behind_tried t (keys_from before path (repo + 1) left)) (behind_tried t (keys_from after path (repo + 1) left))
      by (project pom) ih = nothing []
      by (refused why) ih = ih

      at : (r : Option Reading) → before (key_of repo roles.Pom path) ≡ r → Within (keys_from before path (repo + 1) left) (keys_from after path (repo + 1) left)
          → Within (key_of repo roles.Pom path ∷ behind_reading r (keys_from before path (repo + 1) left))
          (key_of repo roles.Pom path ∷ behind_reading (after (key_of repo roles.Pom path)) (keys_from after path (repo + 1) left))
      at None e ih =
          appended (key_of repo roles.Pom path ∷ []) [] (key_of repo roles.Pom path ∷ []) (behind_reading (after (key_of repo roles.Pom path)) (keys_from after path (repo + 1) left)) (itself _) (nothing _)
      at (Some reading) e ih =
          rw (grows (key_of repo roles.Pom path) reading e)
          (appended (key_of repo roles.Pom path ∷ []) (behind_tried (tried reading) (keys_from before path (repo + 1) left)) (key_of repo roles.Pom path ∷ []) (behind_tried (tried reading) (keys_from after path (repo + 1) left)) (itself _)
          (by (tried reading) ih))

  within_look_keys : (c : Coord) → Within (look_keys before repos c) (look_keys after repos c)
  within_look_keys c = at (is_plain_coord c)
    where
      at : (b : Bool) → Within (cond b (keys_from before (pom_path_of c) 0 repos) []) (cond b (keys_from after (pom_path_of c) 0 repos) [])
      at true = within_from (pom_path_of c) repos 0
      at false = nothing []

  within_parents : (left : ℕ) (line : Line) (next : Option Coord) → Within (parent_keys before repos left line next) (parent_keys after repos left line next)
  within_parents zero line next = nothing []
  within_parents (suc left) line next =
      within_next next _ _
      (λ c.
      within_unless (is_on c line) _ _ c
      (appended (look_keys before repos c) _ (look_keys after repos c) _ (within_look_keys c)
      (within_look (look_of before repos c) (look_of after repos c) (looks c) _ _ (λ repo pom. within_parents left (with_parent line (project_of c repo pom)) pom.parent))))

  within_line : (c : Coord) → Within (line_keys before repos c) (line_keys after repos c)
  within_line c =
      appended (look_keys before repos c) _ (look_keys after repos c) _ (within_look_keys c)
      (within_look (look_of before repos c) (look_of after repos c) (looks c) _ _ (λ repo pom. within_parents 31 (record { own = project_of c repo pom; parents = [] }) pom.parent))

  within_managed : (left : ℕ) (chain : List Coord) (c : Coord) → Within (managed_keys before repos left chain c) (managed_keys after repos left chain c)
  within_managed zero chain c = nothing []
  within_managed (suc left) chain c =
      within_unless (is_among c chain) _ _ c
      (appended (line_keys before repos c) _ (line_keys after repos c) _ (within_line c)
      (within_imports (line_of before repos c) (line_of after repos c) (line_of-stays before after repos looks c) (managed_keys before repos left (chain ++ c ∷ [])) (managed_keys after repos left (chain ++ c ∷ [])) (within_managed left (chain ++ c ∷ []))))

  pub within_effective : (c : Coord) → Within (effective_keys before repos c) (effective_keys after repos c)
  within_effective c =
      appended (line_keys before repos c) _ (line_keys after repos c) _ (within_line c)
      (within_imports (line_of before repos c) (line_of after repos c) (line_of-stays before after repos looks c) (managed_keys before repos 31 (c ∷ [])) (managed_keys after repos 31 (c ∷ [])) (within_managed 31 (c ∷ [])))
