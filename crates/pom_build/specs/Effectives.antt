-- The effective project, after the Maven POM reference.
use Rattle.std.specs.Prelude.{ℕ, Bool, true, false, Option, None, Some, List, [], ◌∷◌, codes, map}
use Rattle.res_base.specs.Known.{Known}
use Rattle.res_base.specs.declared.coord.Coord.{Coord}
use Rattle.res_base.specs.declared.pom.DepRecord.{DepRecord}
use Rattle.res_base.specs.declared.pom.Moved.{Moved}
use Rattle.row_lists.specs.RowLists.{all_managed, joined, or_text}
use Rattle.pom_build.specs.Filling.{filled_moved, filled_rows}
use Rattle.pom_build.specs.Imports.{managed_from, managed_with}
use Rattle.pom_build.specs.Lines.{line_of, projects_of}
use Rattle.pom_build.specs.Names.{fill_in}
use Rattle.pom_build.specs.Outcomes.{and_then, build_of}
use Rattle.pom_build.specs.declared.build.Build.{Build}
use Rattle.pom_build.specs.declared.build.Build.TheVariants as builds
use Rattle.pom_build.specs.declared.build.Effective.{Effective}
use Rattle.pom_build.specs.declared.line.Line.{Line}
use Rattle.pom_build.specs.declared.outcome.Outcome.TheVariants.{Built}

-- joined as written, then filled
unfoldable pub filled_deps : Line → List DepRecord
filled_deps line = filled_rows (fill_in line) (joined (map (λ project. project.pom.deps) (projects_of line)))

-- the one dependency of a project that has moved, where a part that is absent stays as it was
abbrev pub moved_row : Coord → Moved → DepRecord
moved_row c to =
    record {
      «module» = record { org = or_text to.org c.«module».org; name = or_text to.name c.«module».name };
      version = or_text to.version c.version;
      kind = codes "jar";
      classifier = [];
      scope = codes "compile";
      optional = [];
      exclusions = [];
    }

abbrev pub deps_by : Option Moved → Line → List DepRecord → List DepRecord
deps_by None line managed = all_managed managed (filled_deps line)
deps_by (Some to) line managed = moved_row line.own.coord (filled_moved (fill_in line) to) ∷ []

abbrev pub has_moved : Option Moved → Bool
has_moved None = false
has_moved (Some to) = true

abbrev pub effective_in : Line → List DepRecord → Effective
effective_in line managed =
    record {
      coord = line.own.coord;
      repo = line.own.repo;
      packaging = fill_in line line.own.pom.packaging;
      deps = deps_by line.own.pom.moved line managed;
      managed = managed;
      moved = has_moved line.own.pom.moved;
    }

-- a project whose imports stand in chains of at most so many projects more
abbrev pub effective_within : ℕ → Known → ℕ → Coord → Build
effective_within most known repos c =
    build_of (and_then (line_of known repos c) (λ line. and_then (managed_with (managed_from known repos most (c ∷ [])) line) (λ managed. Built (effective_in line managed))))

-- a chain of imports has at most 32 projects, this one among them
unfoldable pub effective_of : Known → ℕ → Coord → Build
effective_of = effective_within 31

-- one step for a project that is built
abbrev pub steps_of : Build → ℕ
steps_of (builds.Built project) = 1
steps_of (builds.Needs keys) = 0
steps_of (builds.NotFound why) = 0
steps_of (builds.Refused fault) = 0
