-- Which keys an answer needs.
use Rattle.std.specs.Prelude.{◌≡◌, ℕ, ◌<◌, true, None, List, [], Contains}
use Rattle.res_base.specs.Known.{Known}
use Rattle.res_base.specs.Plain.{is_plain_coord}
use Rattle.res_base.specs.declared.coord.Coord.{Coord}
use Rattle.res_base.specs.declared.key.FileKey.{FileKey}
use Rattle.project_lookup.specs.Looks.{pom_key}
use Rattle.pom_build.specs.Reads.{effective_keys}
use Rattle.pom_build.specs.declared.build.Build.{Build}
use Rattle.pom_build.specs.declared.build.Build.TheVariants.{Built, Needs, NotFound, Refused}

abbrev pub needed_by : Build → List FileKey
needed_by (Built project) = []
needed_by (Needs keys) = keys
needed_by (NotFound why) = []
needed_by (Refused fault) = []

-- a key that is looked at to build a project, and is not known
abbrev pub IsOpen : Known → ℕ → Coord → FileKey → Type 0
IsOpen known repos c key = Contains (effective_keys known repos c) key × (known key ≡ None)

-- the key of a plain coordinate's POM in one of the repositories
pub record IsPomKey (repos : ℕ) (key : FileKey) : Type 0 where
  pub coord : Coord
  pub repo : ℕ
  pub plain : is_plain_coord coord ≡ true
  pub listed : repo < repos
  pub is : key ≡ pom_key coord repo
