-- What is said stays as it is when more is known.
use Rattle.std.proofs.Common.{◌≡◌, ℕ, zero, suc, Bool, true, false, not, Option, None, Some, List, [], ◌∷◌, ◌++◌, filter, refl, ◌∙◌, ap, true≢false}
use Rattle.res_base.specs.Known.{Known}
use Rattle.res_base.specs.declared.coord.Coord.{Coord}
use Rattle.res_base.specs.declared.pom.DepRecord.{DepRecord}
use Rattle.project_lookup.specs.Looks.{Looked, found, missing, not_found, is_missing, look_of}
use Rattle.pom_build.specs.Effectives.{effective_in, effective_of}
use Rattle.pom_build.specs.Imports.{import_coord, is_import, merged, import_all, imported, managed_rows, managed_with, managed_from}
use Rattle.pom_build.specs.Lines.{is_among, is_on, with_parent, on_parent, on_look, climbed, line_from, started, line_of}
use Rattle.pom_build.specs.Outcomes.{and_then, unless_met, waits, build_of, is_waiting}
use Rattle.pom_build.specs.Projects.{project_of}
use Rattle.pom_build.specs.declared.build.BuildFault.{BuildFault}
use Rattle.pom_build.specs.declared.build.Effective.{Effective}
use Rattle.pom_build.specs.declared.line.Line.{Line}
use Rattle.pom_build.specs.declared.outcome.Outcome.{Outcome}
use Rattle.pom_build.specs.declared.outcome.Outcome.TheVariants.{Built, Needs, NotFound, Refused}

-- where the first does not wait, the second is the same
pub record Stays {A : Type 0} (u v : Outcome A) : Type 0 where
  pub same : waits u ≡ false → v ≡ u

stays-refl : {A : Type 0} (u : Outcome A) → Stays u u
stays-refl u = record { same = λ e. refl }

and_then-stays : {A B : Type 0} (u v : Outcome A) → Stays u v → (k l : A → Outcome B) → ((a : A) → Stays (k a) (l a)) → Stays (and_then u k) (and_then v l)
and_then-stays (Built a) v h k l ih = record { same = λ e. rw (h.same refl) ((ih a).same e) }
and_then-stays (Needs keys) v h k l ih = record { same = λ e. absurd (true≢false e) }
and_then-stays (NotFound why) v h k l ih = record { same = λ e. rw (h.same refl) refl }
and_then-stays (Refused fault) v h k l ih = record { same = λ e. rw (h.same refl) refl }

unless_met-stays : {A : Type 0} (met : Bool) (fault : BuildFault) (c : Coord) (k l : Coord → Outcome A) → Stays (k c) (l c) → Stays (unless_met met fault k c) (unless_met met fault l c)
unless_met-stays true fault c k l h = stays-refl _
unless_met-stays false fault c k l h = h

on_parent-stays : (next : Option Coord) (line : Line) (k l : Coord → Outcome Line) → ((c : Coord) → Stays (k c) (l c)) → Stays (on_parent next line k) (on_parent next line l)
on_parent-stays None line k l h = stays-refl _
on_parent-stays (Some c) line k l h = h c

on_look-stays : (u v : Looked) → (is_missing u ≡ false → v ≡ u) → (line : Line) (c : Coord) (k l : Line → Option Coord → Outcome Line) → ((line : Line) (next : Option Coord) → Stays (k line next) (l line next))
    → Stays (on_look u line c k) (on_look v line c l)
on_look-stays (found repo pom) v h line c k l ih = record { same = λ e. rw (h refl) ((ih (with_parent line (project_of c repo pom)) pom.parent).same e) }
on_look-stays (missing key) v h line c k l ih = record { same = λ e. absurd (true≢false e) }
on_look-stays (not_found why) v h line c k l ih = record { same = λ e. rw (h refl) refl }

started-stays : (u v : Looked) → (is_missing u ≡ false → v ≡ u) → (c : Coord) (k l : Line → Option Coord → Outcome Line) → ((line : Line) (next : Option Coord) → Stays (k line next) (l line next))
    → Stays (started u c k) (started v c l)
started-stays (found repo pom) v h c k l ih = record { same = λ e. rw (h refl) ((ih (record { own = project_of c repo pom; parents = [] }) pom.parent).same e) }
started-stays (missing key) v h c k l ih = record { same = λ e. absurd (true≢false e) }
started-stays (not_found why) v h c k l ih = record { same = λ e. rw (h refl) refl }

imported-stays : (c : Coord) (u v : Outcome Line) → Stays u v → Stays (imported c u) (imported c v)
imported-stays c (Built line) v h = record { same = λ e. rw (h.same refl) refl }
imported-stays c (Needs keys) v h = record { same = λ e. absurd (true≢false e) }
imported-stays c (NotFound why) v h = record { same = λ e. rw (h.same refl) refl }
imported-stays c (Refused fault) v h = record { same = λ e. rw (h.same refl) refl }

-- two answers as one wait where either waits
merged-waits : (u v : Outcome (List DepRecord)) → waits (merged u v) ≡ false → (waits u ≡ false) × (waits v ≡ false)
merged-waits (Built rows) (Built more) e = (refl, refl)
merged-waits (Built rows) (Needs keys) e = absurd (true≢false e)
merged-waits (Built rows) (NotFound why) e = (refl, refl)
merged-waits (Built rows) (Refused fault) e = (refl, refl)
merged-waits (Needs keys) (Built more) e = absurd (true≢false e)
merged-waits (Needs keys) (Needs more) e = absurd (true≢false e)
merged-waits (Needs keys) (NotFound why) e = absurd (true≢false e)
merged-waits (Needs keys) (Refused fault) e = absurd (true≢false e)
merged-waits (NotFound why) (Built more) e = (refl, refl)
merged-waits (NotFound why) (Needs keys) e = absurd (true≢false e)
merged-waits (NotFound why) (NotFound other) e = (refl, refl)
merged-waits (NotFound why) (Refused fault) e = (refl, refl)
merged-waits (Refused fault) (Built more) e = (refl, refl)
merged-waits (Refused fault) (Needs keys) e = absurd (true≢false e)
merged-waits (Refused fault) (NotFound why) e = (refl, refl)
merged-waits (Refused fault) (Refused other) e = (refl, refl)

module _ (k l : Coord → Outcome (List DepRecord)) (stays : (c : Coord) → Stays (k c) (l c)) where
  before_waits : (rows : List DepRecord) (so_far : Outcome (List DepRecord)) → waits (import_all k so_far rows) ≡ false → waits so_far ≡ false
  before_waits [] so_far e = e
  before_waits (row ∷ rows) so_far e = (merged-waits so_far (k (import_coord row)) (before_waits rows (merged so_far (k (import_coord row))) e)).0

  imports-same : (rows : List DepRecord) (so_far : Outcome (List DepRecord)) → waits (import_all k so_far rows) ≡ false → import_all l so_far rows ≡ import_all k so_far rows
  imports-same [] so_far e = refl
  imports-same (row ∷ rows) so_far e =
      let here : waits (merged so_far (k (import_coord row))) ≡ false = before_waits rows (merged so_far (k (import_coord row))) e in
      let one : l (import_coord row) ≡ k (import_coord row) = (stays (import_coord row)).same (merged-waits so_far (k (import_coord row)) here).1 in
      ap (λ next. import_all l (merged so_far next) rows) one ∙ imports-same rows (merged so_far (k (import_coord row))) e

  managed_with-stays : (line : Line) → Stays (managed_with k line) (managed_with l line)
  managed_with-stays line = record { same = λ e. imports-same (filter is_import (managed_rows line)) (Built (filter (λ row. not (is_import row)) (managed_rows line))) e }

module _ (before after : Known) (repos : ℕ) (looks : (c : Coord) → is_missing (look_of before repos c) ≡ false → look_of after repos c ≡ look_of before repos c) where
  line_from-stays : (left : ℕ) (line : Line) (next : Option Coord) → Stays (line_from before repos left line next) (line_from after repos left line next)
  line_from-stays zero line next = stays-refl _
  line_from-stays (suc left) line next =
      on_parent-stays next line (climbed before repos line (line_from before repos left)) (climbed after repos line (line_from after repos left))
      (λ c.
      unless_met-stays (is_on c line) _ c
      (λ parent. on_look (look_of before repos parent) line parent (line_from before repos left)) (λ parent. on_look (look_of after repos parent) line parent (line_from after repos left))
      (on_look-stays (look_of before repos c) (look_of after repos c) (looks c) line c (line_from before repos left) (line_from after repos left) (line_from-stays left)))

  pub line_of-stays : (c : Coord) → Stays (line_of before repos c) (line_of after repos c)
  unfolding line_of
  line_of-stays c = started-stays (look_of before repos c) (look_of after repos c) (looks c) c (line_from before repos 31) (line_from after repos 31) (line_from-stays 31)

  pub managed_from-stays : (left : ℕ) (chain : List Coord) (c : Coord) → Stays (managed_from before repos left chain c) (managed_from after repos left chain c)
  managed_from-stays zero chain c = stays-refl _
  managed_from-stays (suc left) chain c =
      unless_met-stays (is_among c chain) _ c
      (λ one. and_then (imported one (line_of before repos one)) (managed_with (managed_from before repos left (chain ++ one ∷ []))))
      (λ one. and_then (imported one (line_of after repos one)) (managed_with (managed_from after repos left (chain ++ one ∷ []))))
      (and_then-stays (imported c (line_of before repos c)) (imported c (line_of after repos c)) (imported-stays c (line_of before repos c) (line_of after repos c) (line_of-stays c))
      (managed_with (managed_from before repos left (chain ++ c ∷ []))) (managed_with (managed_from after repos left (chain ++ c ∷ [])))
      (managed_with-stays (managed_from before repos left (chain ++ c ∷ [])) (managed_from after repos left (chain ++ c ∷ [])) (managed_from-stays left (chain ++ c ∷ []))))

  abbrev rest : Known → Coord → Line → Outcome Effective
  rest known c line = and_then (managed_with (managed_from known repos 31 (c ∷ [])) line) (λ managed. Built (effective_in line managed))

  build_of-stays : (u v : Outcome Effective) → Stays u v → is_waiting (build_of u) ≡ false → build_of v ≡ build_of u
  build_of-stays (Built project) v h e = ap build_of (h.same refl)
  build_of-stays (Needs keys) v h e = absurd (true≢false e)
  build_of-stays (NotFound why) v h e = ap build_of (h.same refl)
  build_of-stays (Refused fault) v h e = ap build_of (h.same refl)

  pub effective_same : (c : Coord) → is_waiting (effective_of before repos c) ≡ false → effective_of after repos c ≡ effective_of before repos c
  unfolding effective_of
  effective_same c =
      build_of-stays (and_then (line_of before repos c) (rest before c)) (and_then (line_of after repos c) (rest after c))
      (and_then-stays (line_of before repos c) (line_of after repos c) (line_of-stays c) (rest before c) (rest after c)
      (λ line.
      and_then-stays (managed_with (managed_from before repos 31 (c ∷ [])) line) (managed_with (managed_from after repos 31 (c ∷ [])) line)
      (managed_with-stays (managed_from before repos 31 (c ∷ [])) (managed_from after repos 31 (c ∷ [])) (managed_from-stays 31 (c ∷ [])) line)
      (λ managed. Built (effective_in line managed)) (λ managed. Built (effective_in line managed)) (λ managed. stays-refl _)))
