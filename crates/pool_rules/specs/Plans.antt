-- How files are asked for.
use Rattle.std.specs.Prelude.{ℕ, ◌≡◌, ◌||◌, Bool, List, [], ◌∷◌, codes, length, nat_eq}
use Rattle.std.specs.List.{ends_with, slice_split}
use Rattle.cache_layout.specs.Addresses.{IsAddress}
use Rattle.digest_check.specs.KeyAnswers.{key_url, limit_of}
use Rattle.file_answers.specs.Asking.{files_of}
use Rattle.link_base.specs.FilePaths.{is_slash}
use Rattle.pool_rules.specs.declared.plan.Plan.{Plan}
use Rattle.res_base.specs.Members.{Among}
use Rattle.res_base.specs.Names.{role_eq}
use Rattle.res_base.specs.declared.key.FileKey.{FileKey}
use Rattle.res_base.specs.declared.key.Role.TheVariants.{Listing}

-- one address for each of so many repositories, and each of them reads
pub record IsPlanFor (repos : ℕ) (plan : Plan) : Type 0 where
  pub count : length plan.addresses ≡ repos
  pub read : (address : List ℕ) → Among address plan.addresses → IsAddress address

-- the URL of a key
abbrev pub url_in : Plan → FileKey → List ℕ
url_in plan key = key_url plan.addresses key

-- the greatest length of the file at a key
abbrev pub limit_in : Plan → FileKey → ℕ
limit_in plan key = limit_of key.role plan.limit

-- so many files are asked for at most, for one key: its own, and the checksum files beside it
abbrev pub files_in : Plan → ℕ
files_in plan = files_of plan.checks

-- the segment before the last one, which is the version in the path of a project's file
abbrev pub last_but_one : List (List ℕ) → List ℕ
last_but_one [] = []
last_but_one (only ∷ []) = []
last_but_one (folder ∷ file ∷ []) = folder
last_but_one (first ∷ second ∷ third ∷ more) = last_but_one (second ∷ third ∷ more)

abbrev pub is_snapshot : List ℕ → Bool
is_snapshot version = ends_with nat_eq version (codes "-SNAPSHOT")

-- the file at the key may become another one: a listing, or a file of a version that ends in `-SNAPSHOT`
abbrev pub is_changing : FileKey → Bool
is_changing key = role_eq key.role Listing || is_snapshot (last_but_one (slice_split is_slash key.path))
