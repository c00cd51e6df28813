-- Where a built project was found.
use Rattle.std.specs.Prelude.{◌≡◌, ℕ, ◌<◌, true, Some}
use Rattle.res_base.specs.Known.{Known}
use Rattle.res_base.specs.Plain.{is_plain_coord}
use Rattle.res_base.specs.declared.coord.Coord.{Coord}
use Rattle.res_base.specs.declared.pom.PomRecord.{PomRecord}
use Rattle.res_base.specs.declared.reading.Reading.TheVariants as readings
use Rattle.project_lookup.specs.Looks.{NoneBefore, pom_key}
use Rattle.pom_build.specs.declared.build.Effective.{Effective}

-- it is the one asked for, and its repository is the first that is known to have a readable POM of it
pub record IsFound (known : Known) (repos : ℕ) (c : Coord) (project : Effective) : Type 0 where
  pub coord : project.coord ≡ c
  pub plain : is_plain_coord c ≡ true
  pub listed : project.repo < repos
  pub pom : PomRecord
  pub at_key : known (pom_key c project.repo) ≡ Some (readings.Pom pom)
  pub none_before : NoneBefore known c project.repo
