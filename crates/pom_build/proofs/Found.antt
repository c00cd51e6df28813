-- Where a built project was found.
use Rattle.std.proofs.Common.{◌≡◌, ℕ, zero, suc, Bool, true, false, cond, Option, None, Some, List, [], ◌∷◌, refl, sym, ap, subst}
use Rattle.std.specs.Prelude.{replicate}
use Rattle.res_base.specs.Known.{Known}
use Rattle.res_base.specs.Paths.{pom_path_of}
use Rattle.res_base.specs.Plain.{is_plain_coord}
use Rattle.res_base.specs.declared.coord.Coord.{Coord}
use Rattle.res_base.specs.declared.pom.DepRecord.{DepRecord}
use Rattle.res_base.specs.declared.pom.PomRecord.{PomRecord}
use Rattle.res_base.specs.declared.reading.Reason.TheVariants as reasons
use Rattle.project_lookup.specs.Looks.{Looked, found, missing, not_found, look_from, look_of, IsLook}
use Rattle.pom_build.specs.Effectives.{effective_in, effective_of}
use Rattle.pom_build.specs.FoundProjects.{IsFound}
use Rattle.pom_build.specs.Imports.{managed_with, managed_from}
use Rattle.pom_build.specs.Lines.{is_on, with_parent, on_look, climbed, line_from, started, line_of}
use Rattle.pom_build.specs.Outcomes.{and_then, unless_met, build_of}
use Rattle.pom_build.specs.Projects.{FoundProject, project_of}
use Rattle.pom_build.specs.declared.build.Build.TheVariants as builds
use Rattle.pom_build.specs.declared.build.BuildFault.{BuildFault}
use Rattle.pom_build.specs.declared.build.Effective.{Effective}
use Rattle.pom_build.specs.declared.line.Line.{Line}
use Rattle.pom_build.specs.declared.outcome.Outcome.{Outcome}
use Rattle.pom_build.specs.declared.outcome.Outcome.TheVariants.{Built, Needs, NotFound, Refused}
use Rattle.pom_build.proofs.Told.{rest}

-- a line that is built begins with this project
abbrev BeginsWith : FoundProject → Outcome Line → Type 0
BeginsWith own (Built line) = line.own ≡ own
BeginsWith own (Needs keys) = Unit {0}
BeginsWith own (NotFound why) = Unit {0}
BeginsWith own (Refused fault) = Unit {0}

begins_unless : (own : FoundProject) (met : Bool) (fault : BuildFault) (c : Coord) (k : Coord → Outcome Line) → BeginsWith own (k c) → BeginsWith own (unless_met met fault k c)
begins_unless own true fault c k h = tt
begins_unless own false fault c k h = h

begins_look : (u : Looked) (line : Line) (c : Coord) (k : Line → Option Coord → Outcome Line)
    → ((repo : ℕ) (pom : PomRecord) → BeginsWith line.own (k (with_parent line (project_of c repo pom)) pom.parent)) → BeginsWith line.own (on_look u line c k)
begins_look (found repo pom) line c k ih = ih repo pom
begins_look (missing key) line c k ih = tt
begins_look (not_found why) line c k ih = tt

module _ (known : Known) (repos : ℕ) where
  begins_line : (left : ℕ) (line : Line) (next : Option Coord) → BeginsWith line.own (line_from known repos left line next)
  begins_line zero line None = refl
  begins_line zero line (Some c) = tt
  begins_line (suc left) line None = refl
  begins_line (suc left) line (Some c) =
      begins_unless line.own (is_on c line) _ c (λ parent. on_look (look_of known repos parent) line parent (line_from known repos left))
      (begins_look (look_of known repos c) line c (line_from known repos left) (λ repo pom. begins_line left (with_parent line (project_of c repo pom)) pom.parent))

  record Is (own : FoundProject) (project : Effective) : Type 0 where
    pub coord : project.coord ≡ own.coord
    pub repo : project.repo ≡ own.repo

  by_rows : (line : Line) (u : Outcome (List DepRecord)) (project : Effective) → build_of (and_then u (λ managed. Built (effective_in line managed))) ≡ builds.Built project → Is line.own project
  by_rows line (Built rows) project e = let is : effective_in line rows ≡ project = cc in record { coord = sym (ap (λ one. one.coord) is); repo = sym (ap (λ one. one.repo) is) }
  by_rows line (Needs keys) project e = cc
  by_rows line (NotFound why) project e = cc
  by_rows line (Refused fault) project e = cc

  by_line : (own : FoundProject) (c : Coord) (u : Outcome Line) (project : Effective) → BeginsWith own u → build_of (and_then u (rest known repos c)) ≡ builds.Built project → Is own project
  by_line own c (Built line) project begins e = subst (λ one. Is one project) begins (by_rows line (managed_with (managed_from known repos 31 (c ∷ [])) line) project e)
  by_line own c (Needs keys) project begins e = cc
  by_line own c (NotFound why) project begins e = cc
  by_line own c (Refused fault) project begins e = cc

  found_plain : (c : Coord) (repo : ℕ) (pom : PomRecord) → look_of known repos c ≡ found repo pom → is_plain_coord c ≡ true
  found_plain c repo pom = at (is_plain_coord c)
    where
      at : (b : Bool) → cond b (look_from known (pom_path_of c) 0 repos []) (not_found (replicate repos reasons.BadName)) ≡ found repo pom → b ≡ true
      at true e = refl
      at false e = cc

  module _ (looks : (c : Coord) → is_plain_coord c ≡ true → IsLook known repos c (look_of known repos c)) where
    by_look : (c : Coord) (u : Looked) → look_of known repos c ≡ u → (project : Effective) → build_of (and_then (started u c (line_from known repos 31)) (rest known repos c)) ≡ builds.Built project → IsFound known repos c project
    by_look c (found repo pom) e project built =
        let start : Line = record { own = project_of c repo pom; parents = [] } in
        let is : Is (project_of c repo pom) project = by_line (project_of c repo pom) c (line_from known repos 31 start pom.parent) project (begins_line 31 start pom.parent) built in
        let plain : is_plain_coord c ≡ true = found_plain c repo pom e in
        let look : IsLook known repos c (found repo pom) = subst (IsLook known repos c) e (looks c plain) in
        rw (is.repo) (record { coord = is.coord; plain = plain; listed = look.0; pom = pom; at_key = look.1; none_before = look.2 })
    by_look c (missing key) e project built = cc
    by_look c (not_found why) e project built = cc

    pub found_built : (c : Coord) (project : Effective) → effective_of known repos c ≡ builds.Built project → IsFound known repos c project
    unfolding effective_of line_of
    found_built c project built = by_look c (look_of known repos c) refl project built
