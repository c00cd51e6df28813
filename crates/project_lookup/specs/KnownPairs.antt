-- What contracts see of known readings.
use Rattle.std.specs.BTreeMap.{BTreeMap, get}
use Rattle.std.specs.Prelude.{◌≡◌, ℕ, ◌<◌, Bool, true, not, Option, List, All, position}
use Rattle.res_base.specs.Names.{key_eq, key_cmp, role_eq}
use Rattle.res_base.specs.declared.key.FileKey.{FileKey}
use Rattle.res_base.specs.declared.key.Role.{Role}
use Rattle.res_base.specs.declared.key.Role.TheVariants as roles
use Rattle.res_base.specs.declared.reading.Reading.{Reading}
use Rattle.res_base.specs.declared.reading.Reading.TheVariants as readings

-- the number of repositories, and the pairs in order of arrival
pub record KnownPairs : Type 0 where
  pub repos : ℕ
  pub pairs : List (FileKey × Reading)

-- whether a reading may stand at a key of this role
abbrev pub stands_at : Reading → Role → Bool
stands_at (readings.Pom pom) role = role_eq role roles.Pom
stands_at (readings.Listing versions) role = role_eq role roles.Listing
stands_at (readings.Stored len) role = role_eq role roles.Artifact
stands_at (readings.NotReadable fault) role = not (role_eq role roles.Artifact)
stands_at readings.Absent role = true
stands_at (readings.Damaged damage) role = true
stands_at readings.TooLarge role = true

-- each key is of one of the repositories, and has a reading of its role
abbrev pub AreFit : ℕ → List (FileKey × Reading) → Type 0
AreFit repos pairs = All (λ pair. (pair.0.repo < repos) × (stands_at pair.1 pair.0.role ≡ true)) pairs

-- the place of the pair with this key
abbrev pub place_of : List (FileKey × Reading) → FileKey → Option ℕ
place_of pairs key = position (λ pair. key_eq pair.0 key) pairs

-- the table has the place of each key, and no other key
abbrev pub HasPlaces : List (FileKey × Reading) → BTreeMap FileKey ℕ → Type 0
HasPlaces pairs places = (key : FileKey) → get key_cmp places key ≡ place_of pairs key
