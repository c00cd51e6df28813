-- A project that a look-up found.
use Rattle.std.specs.Prelude.{ℕ}
use Rattle.res_base.specs.declared.coord.Coord.{Coord}
use Rattle.res_base.specs.declared.pom.PomRecord.{PomRecord}

pub record FoundProject : Type 0 where
  pub coord : Coord
  pub repo : ℕ
  pub pom : PomRecord

abbrev pub project_of : Coord → ℕ → PomRecord → FoundProject
project_of c repo pom = record { coord = c; repo = repo; pom = pom }
