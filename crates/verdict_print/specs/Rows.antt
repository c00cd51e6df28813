-- Worked rows.
use Rattle.std.specs.Prelude.{ℕ, ◌≡◌, List, [], ◌∷◌, None, codes, refl}
use Rattle.pom_build.specs.declared.build.BuildFault.TheVariants as builds
use Rattle.reconcile_rules.specs.declared.request.Asker.TheVariants as askers
use Rattle.reconcile_rules.specs.declared.request.Clash.TheVariants as clashes
use Rattle.reconcile_rules.specs.declared.request.Request.{Request}
use Rattle.res_base.specs.Builders.{coord_of, module_of}
use Rattle.res_base.specs.declared.coord.Coord.{Coord}
use Rattle.res_base.specs.declared.reading.Check.TheVariants as checks
use Rattle.res_base.specs.declared.reading.Field.TheVariants as fields
use Rattle.res_base.specs.declared.reading.ReadFault.TheVariants as faults
use Rattle.res_base.specs.declared.reading.Reason.TheVariants as reasons
use Rattle.resolution.specs.declared.verdict.ProjectFault.TheVariants as projects
use Rattle.verdict_print.specs.Lines.{clash_lines, failed_lines}
use Rattle.verdict_print.specs.Reasons.{reason_text}

abbrev pub addresses : List (List ℕ)
addresses = codes "http://r1" ∷ codes "http://r2" ∷ []

abbrev pub x : List ℕ → List ℕ → Coord
x name version = coord_of (codes "x") name version

pub not_found :
    failed_lines addresses (record {
      coord = x (codes "b") (codes "1");
      fault = projects.NotFound (reasons.Absent ∷ reasons.NotReadable faults.NotProject ∷ []);
    })
    ≡ codes "not-found x:b:1\n  http://r1 absent\n  http://r2 not-readable not-project\n"
not_found = refl

pub cycle :
    failed_lines addresses (record {
      coord = x (codes "a") (codes "1");
      fault = projects.Refused (builds.ParentCycle
          (x (codes "a") (codes "1") ∷ x (codes "p") (codes "1") ∷ x (codes "a") (codes "1") ∷ []));
    })
    ≡ codes "refused x:a:1 parent-cycle x:a:1 x:p:1 x:a:1\n"
cycle = refl

pub too_deep :
    failed_lines addresses (record {
      coord = x (codes "p1") (codes "1");
      fault = projects.Refused (builds.TooDeep (x (codes "p1") (codes "1") ∷ x (codes "p33") (codes "1") ∷ []));
    })
    ≡ codes "refused x:p1:1 too-deep x:p33:1\n"
too_deep = refl

pub line_absent :
    failed_lines addresses (record {
      coord = x (codes "a") (codes "1");
      fault = projects.Refused (builds.LineAbsent (x (codes "p") (codes "1")) (reasons.Absent ∷ reasons.TooLarge ∷ []));
    })
    ≡ codes "refused x:a:1 line-absent x:p:1\n  http://r1 absent\n  http://r2 too-large\n"
line_absent = refl

abbrev pub request : List ℕ → List ℕ → Request
request text name = record { text = text; from = askers.Project (x name (codes "1")) }

pub no_version :
    clash_lines (record {
      «module» = module_of (codes "x") (codes "b");
      clash = clashes.NoVersion;
      requests = record { text = []; from = askers.Root 0 } ∷ [];
    })
    ≡ codes "clash x:b no-version\n  root asks -\n"
no_version = refl

pub bad_name : reason_text reasons.BadName ≡ codes "name"
bad_name = refl

pub no_version_here : reason_text (reasons.NotReadable (faults.NoCoordinates fields.Version))
    ≡ codes "not-readable no-coordinates version"
no_version_here = refl

pub undecided : reason_text (reasons.Damaged (record { check = checks.NoCheck; wanted = None; got = None }))
    ≡ codes "damaged none"
undecided = refl
