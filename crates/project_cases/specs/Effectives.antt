-- Effective projects in words.
use Rattle.std.specs.Prelude.{ℕ, List, Bool, [], ◌∷◌, ◌++◌, map, codes, decimal, if◌then◌else◌}
use Rattle.pom_build.specs.declared.build.Build.{Build}
use Rattle.pom_build.specs.declared.build.Build.TheVariants as builds
use Rattle.pom_build.specs.declared.build.BuildFault.{BuildFault}
use Rattle.pom_build.specs.declared.build.BuildFault.TheVariants as faults
use Rattle.pom_build.specs.declared.build.Effective.{Effective}
use Rattle.res_base.specs.declared.coord.Coord.{Coord}
use Rattle.res_base.specs.declared.key.FileKey.{FileKey}
use Rattle.res_base.specs.declared.reading.Reason.{Reason}
use Rattle.case_words.specs.Names.{coord_word}
use Rattle.project_cases.specs.Poms.{dep_words, field_word}
use Rattle.project_cases.specs.Reasons.{reason_line}
use Rattle.case_words.specs.Words.{joined}

abbrev pub flag_word : Bool → List ℕ
flag_word moved = if moved then codes "moved=yes" else codes "moved=no"

-- the repository and the packaging, and whether it has moved
abbrev pub built_head : Effective → List (List ℕ)
built_head project = codes "built" ∷ decimal project.repo ∷ field_word (codes "packaging") project.packaging ∷ flag_word project.moved ∷ []

-- and then the rows
abbrev pub built_words : Effective → List (List ℕ)
built_words project = built_head project ++ dep_words (codes "dep=") project.deps ++ dep_words (codes "managed=") project.managed

abbrev pub built_line : Effective → List ℕ
built_line project = joined (codes " ") (built_words project)

abbrev pub key_word : FileKey → List ℕ
key_word key = decimal key.repo ++ (codes ":" ++ key.path)

abbrev pub needs_line : List FileKey → List ℕ
needs_line keys = joined (codes " ") (codes "needs" ∷ map key_word keys)

abbrev pub reasons_line : List Reason → List ℕ
reasons_line reasons = joined (codes " ; ") (map reason_line reasons)

abbrev pub path_line : List ℕ → List Coord → List ℕ
path_line kind path = joined (codes " ") (kind ∷ map coord_word path)

abbrev pub refusal_line : BuildFault → List ℕ
refusal_line (faults.ParentCycle path) = path_line (codes "refused parent-cycle") path
refusal_line (faults.ImportCycle path) = path_line (codes "refused import-cycle") path
refusal_line (faults.TooDeep path) = path_line (codes "refused too-deep") path
refusal_line (faults.LineAbsent coord reasons) = codes "refused line-absent " ++ (coord_word coord ++ (codes " ; " ++ reasons_line reasons))

-- what is answered for this effective project
abbrev pub build_line : Build → List ℕ
build_line (builds.Built project) = built_line project
build_line (builds.Needs keys) = needs_line keys
build_line (builds.NotFound reasons) = codes "not-found " ++ reasons_line reasons
build_line (builds.Refused fault) = refusal_line fault
