-- What a plan says of a key.
use Rattle.std.specs.Prelude.{List, ℕ, [], slice_get, unwrap_or}
use Rattle.cache_layout.specs.Addresses.{IsAddress}
use Rattle.cache_layout.specs.Names.{name_of}
use Rattle.link_base.specs.FilePaths.{IsFilePath}
use Rattle.pool_rules.specs.Plans.{url_in}
use Rattle.pool_rules.specs.declared.plan.Plan.{Plan}
use Rattle.res_base.specs.declared.key.FileKey.{FileKey}

-- the address of a key's repository
abbrev pub address_of : Plan → FileKey → List ℕ
address_of plan key = unwrap_or (slice_get plan.addresses key.repo) []

-- the name of a key's file in the cache
abbrev pub name_in : Plan → FileKey → List ℕ
name_in plan key = name_of (url_in plan key)

-- a key that may be asked for: its repository has an address, and its path is one of files
pub record CanAsk (plan : Plan) (key : FileKey) : Type 0 where
  pub address : IsAddress (address_of plan key)
  pub path : IsFilePath key.path
